-- What the code owes: lengths that are added up, the head and the values stored one after the other, and a judge's answer where it asks
-- one stretch of rules after another.
-- Assumes nothing.
use mathlib.Core.Path.{◌≡◌, sym, ap, ◌∙◌}
use mathlib.Core.Bool.{Bool, true, false}
use mathlib.Core.Logic.{⊎_elim}
use mathlib.Core.List.{List, [], ◌∷◌, ◌++◌}
use Prim.Native.Nat.{ℕ, zero, suc, ◌+◌, ◌*◌, ◌≤◌}
use native.Mathlib.Nat.{mul-le-mul}
use native.Mathlib.Omega.{arith}
use lib.Dec.{T}
use lib.ListN.{length, length-append}
use lib.Seq.{sets}
use Rattle.wire.specs.Numbers.{over}
use Rattle.std.specs.Prelude.{Option, None, Some, Result, Ok, Err}
use Rattle.std.specs.Option.{ok_or}
use Rattle.wire.specs.Answer.{judged}
use Rattle.wire.specs.Numbered.{refusal}
use Rattle.wire.specs.Refusal.{Rule, ◌when◌, pick, first, numbered}
use Rattle.wire.specs.declared.refusals.Refusal.{Refusal}
use Rattle.wire.specs.declared.refusals.Refusal.TheVariants.{UnknownFunction}
use Rattle.wire.proofs.Answer.{accepted_as, none_judged, judged_none}
use Rattle.wire.proofs.Rules.{first_skips, first_hits, none_first}
use Rattle.wire.proofs.Writing.{sets_then, sets_over}
use Rattle.reading.specs.Values.{bad_width}
use Rattle.reading.specs.Mask.{channel_count}
use Rattle.reading.proofs.Answers.{four_or_eight}
use Rattle.reading.proofs.Masks.{channel_count_le}
use Rattle.pulsar_body.specs.Body.{bad_length, body_rules, reading_answer, judged_body, values_rules, room_rules}
use Rattle.pulsar_body.specs.declared.Form.{Form}
use Rattle.pulsar_body.specs.declared.Values.{Values}

-- 32 channels of 8 bytes
pub channel_bytes_le : (mask width : ℕ) → bad_width width ≡ false → channel_count mask * width ≤ 256
channel_bytes_le mask width good =
    let h : width ≤ 8 = ⊎_elim (λ w. omega arith) (λ w. omega arith) (four_or_eight width good) in
    let m : channel_count mask * width ≤ 32 * 8 = mul-le-mul (channel_count_le mask) h in
    omega arith

-- a head of n bytes and the values after it, counted and stored
module _ (head vs : List ℕ) (n : ℕ) (en : n ≡ length head) where
  pub counted : n + length vs ≡ length (head ++ vs)
  counted = ap (λ (k : ℕ). k + length vs) en ∙ sym (length-append head vs)

  pub stored : (out o₁ o₂ : List ℕ) → o₁ ≡ sets out 0 head → o₂ ≡ sets o₁ n vs → length (head ++ vs) ≤ length out → o₂ ≡ over out (head ++ vs)
  stored out o₁ o₂ e₁ e₂ fits = e₂ ∙ ap (λ (o : List ℕ). sets o n vs) e₁ ∙ sets_then out head vs n (sym en) ∙ sets_over out (head ++ vs) fits

-- ---- after the width, which is judged first and kept as w: past its rule an answer to the later rules is an answer to all of them
module _ {A : Type 0} (x : A) where
  pub width_refused : (width n : ℕ) (e : Refusal) → (e ≡ refusal 1) × (bad_width width ≡ true) → Err e ≡ judged x (pick (bad_width width) 1 n)
  unfolding pick
  width_refused width n e h = ap Err h.0 ∙ sym (ap (λ (b : Bool). judged x (pick b 1 n)) h.1)

  pub width_passed : (w width : ℕ) (later : ℕ → ℕ) (a : Result A Refusal) → w ≡ width → bad_width w ≡ false → a ≡ judged x (later w)
      → a ≡ judged x (pick (bad_width width) 1 (later width))
  unfolding pick
  width_passed w width later a same good h =
      h
      ∙ ap (λ (k : ℕ). judged x (later k)) same
      ∙ sym (ap (λ (b : Bool). judged x (pick b 1 (later width))) (ap bad_width (sym same) ∙ good))

-- reading: the same of a function that is known, and of none
module _ {F : Type 0} (form_of : F → Form) (width mask : ℕ) (s : List ℕ) where
  pub body_width_refused : (function : Option F) (e : Refusal) → (e ≡ refusal 1) × (bad_width width ≡ true) → Err e ≡ judged_body form_of function width mask s
  unfolding pick
  body_width_refused None e h = ap Err h.0 ∙ sym (ap (λ (b : Bool). Err (refusal (pick b 1 10))) h.1)
  body_width_refused (Some f) e h = width_refused f width _ e h

  pub body_unknown : (function : Option F) (w : ℕ) (e : Refusal) → Err e ≡ ok_or function UnknownFunction → w ≡ width → bad_width w ≡ false
      → Err e ≡ judged_body form_of function width mask s
  unfolding pick refusal
  body_unknown None w e is same good = is ∙ sym (ap (λ (b : Bool). Err (refusal (pick b 1 10))) (ap bad_width (sym same) ∙ good))
  body_unknown (Some f) w e is same good = absurd (cc)

  pub body_known : (function : Option F) (f : F) (w : ℕ) (a : Result F Refusal) → function ≡ Some f → w ≡ width → bad_width w ≡ false
      → a ≡ judged f (first (11 when bad_length (form_of f) w mask s ∷ [])) → a ≡ judged_body form_of function width mask s
  unfolding pick
  body_known function f w a is same good h =
      width_passed f w width (λ (k : ℕ). first (11 when bad_length (form_of f) k mask s ∷ [])) a same good h
      ∙ sym (ap (λ (o : Option F). judged_body form_of o width mask s) is)

  -- what was accepted of a body says which function it has, and that no rule holds
  pub body_done : (function : Option F) (f : F) → Ok f ≡ judged_body form_of function width mask s
      → (function ≡ Some f) × (first (body_rules (Some (form_of f)) width mask s) ≡ 0)
  body_done None f e = absurd (cc)
  body_done (Some g) f e =
      let done = accepted_as g (first (body_rules (Some (form_of g)) width mask s)) f (sym e) in
      let same = done.1 in
      (ap Some same, ap (λ (h : F). first (body_rules (Some (form_of h)) width mask s)) (sym same) ∙ done.0)

-- ---- one stretch of rules after another, where a judge has answered of the first

-- a refusal is the same whatever would have been accepted, and what says nothing is followed by the answer
refused_too : {A B : Type 0} (x : A) (y : B) (n : ℕ) (e : Refusal) → Err e ≡ judged y n → Err e ≡ judged x n
refused_too x y zero e h = absurd (cc)
refused_too x y (suc n) e h = ap Err (cc)

module _ {A : Type 0} (x : A) (rs ss : List Rule) where
  pub stretch_refused : {B : Type 0} (y : B) (e : Refusal) → Err e ≡ judged y (first rs) → Err e ≡ judged x (first (rs ++ ss))
  stretch_refused {B} y e h =
      refused_too x y (first rs) e h
      ∙ sym (ap (judged x) (first_hits rs ss (λ (z : first rs ≡ 0). let k : ◌≡◌ {A = Result B Refusal} (Err e) (Ok y) = h ∙ ap (judged y) z in cc)))

  pub stretch_passed : {B : Type 0} (y z : B) (a : Result A Refusal) → T (numbered rs) → Ok z ≡ judged y (first rs) → a ≡ judged x (first ss) → a ≡ judged x (first (rs ++ ss))
  stretch_passed y z a t e h = h ∙ sym (ap (judged x) (first_skips rs ss (none_first rs t (none_judged y (first rs) z e))))

-- what a judge answers that has nothing to say of what it accepts
abbrev Found : Result Unit Refusal → ℕ → Type 0
Found r n = r ≡ judged tt n

-- reading: the body before its fields, and then the fields
module _ {F A : Type 0} (form_of : F → Form) (fields : F → List Rule) (says : F → A) (width mask : ℕ) (s : List ℕ) where
  pub reading_refused : (function : Option F) (e : Refusal) → Err e ≡ judged_body form_of function width mask s → Err e ≡ reading_answer form_of fields says function width mask s
  reading_refused None e h = let k : e ≡ refusal (first (body_rules None width mask s)) = cc in ap Err k
  reading_refused (Some f) e h = stretch_refused (says f) (body_rules (Some (form_of f)) width mask s) (fields f) f e h

  reading_passed : (function : Option F) (f : F) (a : Result A Refusal) → Ok f ≡ judged_body form_of function width mask s → a ≡ judged (says f) (first (fields f))
      → a ≡ reading_answer form_of fields says function width mask s
  reading_passed function f a e h =
      let d = body_done form_of width mask s function f e in
      let rules = body_rules (Some (form_of f)) width mask s in
      h
      ∙ sym (ap (judged (says f)) (first_skips rules (fields f) (none_first rules tt d.1)))
      ∙ sym (ap (λ (o : Option F). reading_answer form_of fields says o width mask s) d.0)

  pub reading_fields_refused : (function : Option F) (f : F) (e : Refusal) → Ok f ≡ judged_body form_of function width mask s → Found (Err e) (first (fields f))
      → Err e ≡ reading_answer form_of fields says function width mask s
  reading_fields_refused function f e ok h = reading_passed function f (Err e) ok (refused_too (says f) tt (first (fields f)) e h)

  pub reading_done : (function : Option F) (f : F) (a : A) → Ok f ≡ judged_body form_of function width mask s → Found (Ok tt) (first (fields f)) → a ≡ says f
      → Ok a ≡ reading_answer form_of fields says function width mask s
  reading_done function f a ok h ea = reading_passed function f (Ok a) ok (ap Ok ea ∙ sym (judged_none (says f) (first (fields f)) (none_judged tt (first (fields f)) tt h)))

-- writing: the values, the fields, and then the room
module _ (due v : Values) (width mask m : ℕ) (vs : List ℕ) (faults : List Rule) (needed room : ℕ) (ev : v ≡ due) (em : m ≡ mask) where
  same_values : (r : Result Unit Refusal) → Found r (first (values_rules v width m vs)) → Found r (first (values_rules due width mask vs))
  same_values r h = rw (← ev, ← em) h

  pub values_refused : (e : Refusal) → Found (Err e) (first (values_rules v width m vs)) → Found (Err e) (first (values_rules due width mask vs ++ faults ++ room_rules needed room))
  values_refused e h = stretch_refused tt (values_rules due width mask vs) (faults ++ room_rules needed room) tt e (same_values (Err e) h)

  values_passed : (r : Result Unit Refusal) → Found (Ok tt) (first (values_rules v width m vs)) → Found r (first (faults ++ room_rules needed room))
      → Found r (first (values_rules due width mask vs ++ faults ++ room_rules needed room))
  values_passed r h = stretch_passed tt (values_rules due width mask vs) (faults ++ room_rules needed room) tt tt r tt (same_values (Ok tt) h)

  pub fields_refused : (e : Refusal) → Found (Ok tt) (first (values_rules v width m vs)) → Found (Err e) (first faults)
      → Found (Err e) (first (values_rules due width mask vs ++ faults ++ room_rules needed room))
  fields_refused e h k = values_passed (Err e) h (stretch_refused tt faults (room_rules needed room) tt e k)

  pub room_judged : (n : ℕ) (r : Result Unit Refusal) → Found (Ok tt) (first (values_rules v width m vs)) → T (numbered faults) → Found (Ok tt) (first faults)
      → n ≡ needed → Found r (first (room_rules n room)) → Found r (first (values_rules due width mask vs ++ faults ++ room_rules needed room))
  room_judged n r h t k en er =
      values_passed r h (stretch_passed tt faults (room_rules needed room) tt tt r t k (er ∙ ap (λ (j : ℕ). judged tt (first (room_rules j room))) en))
