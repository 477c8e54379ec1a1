-- What is judged of every body before its fields and, in writing, after them.
-- Assumes nothing.
use Rattle.std.specs.Prelude.{ℕ, ◌*◌, Bool, true, false, not, ◌||◌, List, [], ◌∷◌, ◌++◌, eqb, ltb, length, drop, Option, None, Some, Result}
use Rattle.wire.specs.Refusal.{Rule, ◌when◌, first}
use Rattle.wire.specs.Answer.{refuse, judged}
use Rattle.wire.specs.declared.refusals.Refusal.{Refusal}
use Rattle.reading.specs.Mask.{channel_count}
use Rattle.reading.specs.Values.{bad_width, uneven}
use Rattle.pulsar_body.specs.declared.Form.{Form}
use Rattle.pulsar_body.specs.declared.Values.{Values}
use Rattle.pulsar_body.specs.declared.Values.TheVariants.{Nothing, Channels, Any, Eight}

-- other than n value bytes
abbrev pub other_than : ℕ → List ℕ → Bool
other_than n values = not (eqb (length values) n)

-- 11 body length wrong: value bytes other than those due, which are none, "one value a channel, all of one width", "0 or more values", or 8
-- bytes
abbrev pub bad_values : Values → ℕ → ℕ → List ℕ → Bool
bad_values Nothing width mask values = other_than 0 values
bad_values Channels width mask values = other_than (channel_count mask * width) values
bad_values Any width mask values = uneven width values
bad_values Eight width mask values = other_than 8 values

-- the form says how many bytes the head has, and which values are due after it
abbrev pub bad_length : Form → ℕ → ℕ → List ℕ → Bool
bad_length form width mask s = ltb 245 (length s) || ltb (length s) form.head || bad_values form.values width mask (drop form.head s)

-- 10 function not among those above; in a request, 0 too: one that has no form
abbrev pub is_unknown : Option Form → Bool
is_unknown None = true
is_unknown (Some form) = false

-- 11 body length wrong or, when reading, above 245; that of an unknown function is not judged
abbrev pub bad_body : Option Form → ℕ → ℕ → List ℕ → Bool
bad_body None width mask s = false
bad_body (Some form) width mask s = bad_length form width mask s

-- reading, before the fields
abbrev pub body_rules : Option Form → ℕ → ℕ → List ℕ → List Rule
body_rules form width mask s =
    1 when bad_width width
    ∷ 10 when is_unknown form
    ∷ 11 when bad_body form width mask s
    ∷ []

-- reading: what is judged of every body, and then the fields that a known function has: "Where several fields of one body are at fault, the
-- earlier field is judged first, after 11."
abbrev pub reading_rules : {F : Type 0} → (F → Form) → (F → List Rule) → Option F → ℕ → ℕ → List ℕ → List Rule
reading_rules form_of fields None width mask s = body_rules None width mask s
reading_rules form_of fields (Some f) width mask s = body_rules (Some (form_of f)) width mask s ++ fields f

-- and what is answered, where a known function's body says so much
abbrev pub reading_answer : {F A : Type 0} → (F → Form) → (F → List Rule) → (F → A) → Option F → ℕ → ℕ → List ℕ → Result A Refusal
reading_answer form_of fields says None width mask s = refuse (first (reading_rules form_of fields None width mask s))
reading_answer form_of fields says (Some f) width mask s = judged (says f) (first (reading_rules form_of fields (Some f) width mask s))

-- for the code: the same before the fields, with the function alone
abbrev pub judged_body : {F : Type 0} → (F → Form) → Option F → ℕ → ℕ → List ℕ → Result F Refusal
judged_body form_of = reading_answer form_of (λ f. []) (λ f. f)

-- writing, before the fields
abbrev pub values_rules : Values → ℕ → ℕ → List ℕ → List Rule
values_rules due width mask values = 1 when bad_width width ∷ 11 when bad_values due width mask values ∷ []

-- 17 payload above 245
abbrev pub too_long : ℕ → Bool
too_long needed = ltb 245 needed

-- 16 output shorter than needed
abbrev pub no_room : ℕ → ℕ → Bool
no_room needed room = ltb room needed

-- writing, after the fields
abbrev pub room_rules : ℕ → ℕ → List Rule
room_rules needed room = 17 when too_long needed ∷ 16 when no_room needed room ∷ []

-- "writing, field faults first, then 17, then 16"; "Writing uses the reading numbers for the same faults"
abbrev pub write_rules : Form → List Rule → ℕ → ℕ → List ℕ → ℕ → ℕ → List Rule
write_rules form faults width mask values needed room = values_rules form.values width mask values ++ faults ++ room_rules needed room
