-- The round trips of a body, whatever its fields: what a writer left is a good body, and a good body is written again.
-- Assumes nothing.
use mathlib.Core.Path.{◌≡◌, refl, sym, ap, ap₂, ◌∙◌}
use mathlib.Core.Bool.{Bool, true, false, cond, ◌||◌}
use mathlib.Core.List.{List, ◌++◌}
use Prim.Native.Nat.{ℕ, ◌≤◌}
use native.Mathlib.Omega.{arith}
use lib.Dec.{T, eqb, ltb}
use lib.ListN.{length, take, drop, length-append, take-append-drop}
use lib.Seq.{drop_at}
use borrow.Author.Tests.{eqb-true, ltb-false, le-ltb}
use Rattle.wire.specs.Numbers.{over}
use Rattle.wire.specs.Answer.{refuse}
use Rattle.wire.specs.Numbered.{number_of, refusal}
use Rattle.wire.specs.Refusal.{Rule, pick, first, NoneHolds, numbered, named, FirstInOrder}
use Rattle.wire.specs.declared.refusals.Refusal.{Refusal}
use Rattle.std.specs.Prelude.{Option, None, Some, Result, Ok, Err}
use Rattle.wire.specs.Writes.{Written, Writes}
use Rattle.wire.proofs.Answer.{accepted_as, named_first}
use Rattle.wire.proofs.Bools.{or_neither, neither_or, true_T}
use Rattle.wire.proofs.Rules.{first_none, none_first, numbered_append, named_append, none_append, none_both, in_order, first_named}
use Rattle.wire.proofs.Writes.{wrote_front, wrote_all}
use Rattle.reading.specs.Values.{bad_width}
use Rattle.pulsar_body.specs.Body.{bad_values, body_rules, reading_rules, reading_answer, values_rules, room_rules}
use Rattle.pulsar_body.specs.declared.Form.{Form}
use Rattle.pulsar_body.specs.declared.Values.{Values}

-- no rule of writing has the number 0
pub numbered_writing : (due : Values) (width mask : ℕ) (vs : List ℕ) (faults : List Rule) (needed room : ℕ) → T (numbered faults)
    → T (numbered (values_rules due width mask vs ++ faults ++ room_rules needed room))
numbered_writing due width mask vs faults needed room t = numbered_append faults (room_rules needed room) t tt

-- and each has a refusal's
pub named_writing : (due : Values) (width mask : ℕ) (vs : List ℕ) (faults : List Rule) (needed room : ℕ) → T (named faults)
    → T (named (values_rules due width mask vs ++ faults ++ room_rules needed room))
named_writing due width mask vs faults needed room t = named_append faults (room_rules needed room) t tt

-- so the number of what is refused is the rule's
pub writing_tells : (due : Values) (width mask : ℕ) (vs : List ℕ) (faults : List Rule) (needed room : ℕ) → named faults ≡ true
    → (first (values_rules due width mask vs ++ faults ++ room_rules needed room) ≡ 0 → ⊥)
    → number_of (refusal (first (values_rules due width mask vs ++ faults ++ room_rules needed room))) ≡ first (values_rules due width mask vs ++ faults ++ room_rules needed room)
writing_tells due width mask vs faults needed room e =
    first_named (values_rules due width mask vs ++ faults ++ room_rules needed room) (named_writing due width mask vs faults needed room (true_T (named faults) e))

-- what is not refused has room
pub writing_fits : (due : Values) (width mask : ℕ) (vs : List ℕ) (faults : List Rule) (needed room : ℕ) → T (numbered faults)
    → first (values_rules due width mask vs ++ faults ++ room_rules needed room) ≡ 0 → needed ≤ room
writing_fits due width mask vs faults needed room t z =
    let none = none_first (values_rules due width mask vs ++ faults ++ room_rules needed room) (numbered_writing due width mask vs faults needed room t) z in
    ltb-false room needed (none_append faults (room_rules needed room) none.1.1).1.1.0

-- what a writer left: a head of n bytes with the values after it, which no rule of reading refuses before the fields
pub body_back : (form : Form) (width mask read : ℕ) (head vs : List ℕ) (faults : List Rule) (out out' : List ℕ) (k : ℕ) → bad_values form.values width read vs ≡ bad_values form.values width mask vs → length head ≡ form.head → T (numbered faults)
    → Writes (first (values_rules form.values width mask vs ++ faults ++ room_rules (length (head ++ vs)) (length out))) (head ++ vs) out (Ok k) out'
    → (take k out' ≡ head ++ vs) × (drop form.head (head ++ vs) ≡ vs) × NoneHolds (body_rules (Some form) width read (head ++ vs)) × NoneHolds faults
body_back form width mask read head vs faults out out' k count e t w =
    let n = form.head in
    let due = form.values in
    let s = head ++ vs in
    let rules = values_rules due width mask vs ++ faults ++ room_rules (length s) (length out) in
    let o = wrote_front (first rules) s out (Ok k) out' k w refl in
    let none = none_first rules (numbered_writing due width mask vs faults (length s) (length out) t) o.0 in
    let parts = none_append faults (room_rules (length s) (length out)) none.1.1 in
    let values : drop n s ≡ vs = drop_at head vs n e in
    let whole : n ≤ length s = omega (arith, length-append head vs) in
    let good =
    neither_or (ltb 245 (length s) || ltb (length s) n) (bad_values due width read (drop n s))
    (neither_or (ltb 245 (length s)) (ltb (length s) n) parts.1.0 (le-ltb (length s) n whole))
    (ap (bad_values due width read) values ∙ count ∙ none.1.0) in
    (o.1, values, (none.0, (refl, (good, tt))), parts.0)

-- a good body has all of its head
pub head_within : (form : Form) (width mask : ℕ) (s : List ℕ) → NoneHolds (body_rules (Some form) width mask s) → form.head ≤ length s
head_within form width mask s none =
    let n = form.head in
    let due = form.values in
    let lengths = or_neither (ltb 245 (length s) || ltb (length s) n) (bad_values due width mask (drop n s)) none.1.1.0 in
    ltb-false (length s) n (or_neither (ltb 245 (length s)) (ltb (length s) n) lengths.0).1

-- and is written again, where its fields are not refused
pub body_again : (form : Form) (due' : Values) (width mask read : ℕ) (s head vs : List ℕ) (faults : List Rule) (out : List ℕ) (r : Written) (out' : List ℕ)
    → bad_values form.values width read vs ≡ bad_values due' width mask vs → NoneHolds (body_rules (Some form) width read s) → head ≡ take form.head s → vs ≡ drop form.head s → NoneHolds faults → length s ≤ length out
    → Writes (first (values_rules due' width mask vs ++ faults ++ room_rules (length (head ++ vs)) (length out))) (head ++ vs) out r out'
    → (r ≡ Ok (length s)) × (out' ≡ over out s)
body_again form due' width mask read s head vs faults out r out' count none eh ev good fits w =
    let n = form.head in
    let due = form.values in
    let bs = head ++ vs in
    let same : bs ≡ s = ap₂ (λ (x y : List ℕ). x ++ y) eh ev ∙ take-append-drop n s in
    let long : length bs ≡ length s = ap length same in
    let lengths = or_neither (ltb 245 (length s) || ltb (length s) n) (bad_values due width read (drop n s)) none.1.1.0 in
    let short = (or_neither (ltb 245 (length s)) (ltb (length s) n) lengths.0).0 in
    let rooms = room_rules (length bs) (length out) in
    let zero = first_none (values_rules due' width mask vs ++ faults ++ rooms) (
      none.0,
      (
        sym count ∙ ap (bad_values due width read) ev ∙ lengths.1,
        none_both faults rooms good (rw long short, (rw long (le-ltb (length out) (length s) fits), tt)),
      ),
    ) in
    let o = wrote_all _ bs out r out' w zero in
    (o.0 ∙ ap Ok long, o.1 ∙ ap (over out) same)

-- ---- what a reader of bodies answers: at an acceptance, and the first rule in its order
module _ {F A : Type 0} (form_of : F → Form) (fields : F → List Rule) (says : F → A) (width mask : ℕ) (s : List ℕ) where
  pub reading_accepts : (function : Option F) (a : A) → reading_answer form_of fields says function width mask s ≡ Ok a
      → (f : F) × (function ≡ Some f) × (first (reading_rules form_of fields (Some f) width mask s) ≡ 0) × (says f ≡ a)
  reading_accepts None a e = absurd (cc)
  reading_accepts (Some f) a e =
      let ok = accepted_as (says f) (first (reading_rules form_of fields (Some f) width mask s)) a e in
      (f, refl, ok.0, ok.1)

  -- of an unknown function 1 or 10 is told
  some : (b : Bool) → pick b 1 10 ≡ 0 → ⊥
  unfolding pick
  some true z = absurd (omega arith)
  some false z = absurd (omega arith)

  pub reading_first : (told : Result A Refusal → ℕ) → ((e : Refusal) → told (Err e) ≡ number_of e) → ((a : A) → told (Ok a) ≡ 0) → ((f : F) → T (named (fields f)))
      → (function : Option F) → FirstInOrder (reading_rules form_of fields function width mask s) (told (reading_answer form_of fields says function width mask s))
  unfolding pick
  reading_first told err ok t None =
      let rules = body_rules None width mask s in
      in_order rules _ tt (sym (err (refusal (first rules)) ∙ first_named rules tt (some (bad_width width))))
  reading_first told err ok t (Some f) =
      let lengths = body_rules (Some (form_of f)) width mask s in
      named_first refuse (Ok (says f)) told (λ n. err (refusal n)) (lengths ++ fields f) (named_append lengths (fields f) tt (t f)) (ok (says f))

-- ---- a known function has the number from which it was read: by the cases of the reading
module _ {F : Type 0} (number : F → ℕ) (n : ℕ) where
  pub number_kept : (k : ℕ) (f h : F) (g : Option F) → number f ≡ k → (g ≡ Some h → number h ≡ n) → cond (eqb n k) (Some f) g ≡ Some h → number h ≡ n
  number_kept k f h g e more = go (eqb n k) refl
    where
      go : (b : Bool) → eqb n k ≡ b → cond b (Some f) g ≡ Some h → number h ≡ n
      go true t u = let same : f ≡ h = cc in sym (ap number same) ∙ e ∙ sym (eqb-true n k t)
      go false t u = more u
