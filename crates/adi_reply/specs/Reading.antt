-- What is judged of a reply, and what is answered.
-- Assumes nothing.
use Rattle.std.specs.Prelude.{ℕ, ◌+◌, ◌%◌, Bool, true, false, not, ◌||◌, List, [], ◌∷◌, eqb, ltb, length, Result, Ok, Err}
use Rattle.wire.specs.Answer.{judged}
use Rattle.wire.specs.InTurn.{in_turn}
use Rattle.wire.specs.Refusal.{Rule, ◌when◌, first}
use Rattle.wire.specs.Told.{Told, accepted, refused}
use Rattle.adi.specs.Groups.{at_place}
use Rattle.adi.specs.Head.{count_of, body_of, not_function, other_count}
use Rattle.adi_reply.specs.Layout.{length_of, type_of, registers_of, groups_of}
use Rattle.adi_reply.specs.declared.Reply.{Reply}
use Rattle.adi_reply.specs.declared.Reply.TheVariants.{Groups, NoData}
use Rattle.wire.specs.Numbered.{number_of}
use Rattle.wire.specs.declared.refusals.Refusal.{Refusal}

-- of a byte count
abbrev pub not4to245 : ℕ → Bool
not4to245 n = ltb n 4 || ltb 245 n

-- 80 byte count none, not the bytes after it, or not .. (a reply's .. 4 to 245)
abbrev pub bad_count : List ℕ → Bool
bad_count s = other_count s || not4to245 (count_of s)

-- 83 group length (a reply's is even, from 2, ..): "an even number"
abbrev pub not_even_from2 : ℕ → Bool
not_even_from2 n = ltb n 2 || not (eqb (n % 2) 0)

-- 81 type missing or not 6
abbrev pub other_type : List ℕ → Bool
other_type g = not (eqb (type_of g) 6)

-- 83 group length (a reply's is even, from 2, and within the bytes left)
abbrev pub bad_length : List ℕ → Bool
bad_length g = not_even_from2 (length_of g) || ltb (length g) (length_of g + 2)

-- "then group by group"
abbrev pub group_rules : List ℕ → List Rule
group_rules g = 81 when other_type g ∷ 83 when bad_length g ∷ []

-- 81 type missing or not 6: the only group of a reply of four bytes
abbrev pub other_type_in : List ℕ → Bool
other_type_in s = other_type (body_of s)

-- after the function, of a reply of four bytes and of any other: "only its function and type are judged"
abbrev pub body_rules : Bool → List ℕ → List Rule
body_rules true s = 81 when other_type_in s ∷ []
body_rules false s = 80 when bad_count s ∷ in_turn group_rules (groups_of s)

abbrev pub four_bytes : List ℕ → Bool
four_bytes s = eqb (length s) 4

abbrev pub reply_rules : List ℕ → List Rule
reply_rules s = 10 when not_function s ∷ body_rules (four_bytes s) s

-- "and has an answer of its own that keeps both length bytes, any numbers"; otherwise how many groups
abbrev pub found_in : Bool → List ℕ → Reply
found_in true s = NoData (count_of s) (length_of (body_of s))
found_in false s = Groups (length (groups_of s))

unfoldable pub read_reply : List ℕ → Result Reply Refusal
read_reply s = judged (found_in (four_bytes s) s) (first (reply_rules s))

-- the register bytes of the group at a place; of one that is not there, none
unfoldable pub registers_at : List ℕ → ℕ → List ℕ
registers_at s place = registers_of (at_place [] (groups_of s) place)

abbrev pub told_reply : Result Reply Refusal → Told
told_reply (Ok (Groups n)) = accepted (n ∷ [])
told_reply (Ok (NoData count n)) = accepted (count ∷ n ∷ [])
told_reply (Err e) = refused (number_of e)
