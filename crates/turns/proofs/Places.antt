-- Places, which count from 0, of what the searches find; and what a call leaves, by what its judge answered.
-- Assumes nothing.
use mathlib.Core.Path.{◌≡◌, refl, sym, ap, ap₂, ◌∙◌, subst}
use mathlib.Core.Bool.{Bool, true, false, not, cond}
use mathlib.Core.List.{List}
use Prim.Native.Nat.{ℕ, zero, suc, ◌+◌, ◌-◌, ◌%◌, ◌<◌, ◌≤◌}
use native.Mathlib.Numerals.{add-one}
use native.Mathlib.Omega.{arith}
use lib.Dec.{ltb, eqb, eqb-zero-suc, eqb-suc-zero, eqb-suc-suc}
use lib.ListN.{length, get_or, set}
use borrow.Author.Tests.{ltb-true, ltb-false, not-true, not-false}
use Rattle.std.specs.Prelude.{None, Some, is_some, Result, Ok, Err}
use Rattle.std.specs.List.{position, position_or_len}
use Rattle.std.specs.Option.{option_eq, ok_or}
use Rattle.std.proofs.lemmas.List.Sums.{prefix_len_passes, prefix_len_stops}
use Rattle.wire.specs.Answer.{answered, refuse, judged}
use Rattle.wire.specs.Numbered.{refusal}
use Rattle.wire.specs.Refusal.{pick, first}
use Rattle.wire.specs.declared.refusals.Refusal.{Refusal}
use Rattle.wire.proofs.Answer.{accepted_as}
use Rattle.turns.specs.Table.{IsSlot, place, first_of, onward, held_twice, slots, holds, lowest_with, lowest_empty, next_due, due_in}
use Rattle.turns.specs.Calls.{answered_with, add_rules, slot_rules, turn_rules, added, changed, turned}
use Rattle.turns.specs.declared.Answered.{Answered}
use Rattle.turns.specs.declared.Table.{Table}
use Rattle.turns.proofs.Answers.{add_free, slot_there, turn_next}
use Rattle.turns.proofs.Fitness.{first_up, Seen, not_seen, one_seen}
use Rattle.turns.proofs.Round.{same_way, found, passed, none_found}

pub place_suc : (k : ℕ) → place (k + 1) ≡ Some k
place_suc k = ap place (add-one k)

-- what the place says of the slot
pub some_place : (k : ℕ) → is_some (place k) ≡ not (eqb k 0)
some_place zero = refl
some_place (suc k) = ap not (sym (eqb-suc-zero k))

pub other_place : (k at : ℕ) → not (option_eq eqb (place k) (Some at)) ≡ not (eqb k (at + 1))
other_place zero at = ap not (sym (ap (eqb 0) (add-one at) ∙ eqb-zero-suc at))
other_place (suc k) at = ap not (sym (ap (eqb (suc k)) (add-one at) ∙ eqb-suc-suc k at))

-- and where slot 0, which is none, is refused with n + 1
pub place_or : (k n : ℕ) (b : Bool) (e : Refusal) → eqb k 0 ≡ b → e ≡ refusal (suc n) → ok_or (place k) e ≡ judged (k - 1) (pick b (suc n) 0)
unfolding pick
place_or zero n true e eb ee = ap Err ee
place_or zero n false e eb ee = absurd (cc)
place_or (suc k) n true e eb ee = absurd (let z : false ≡ true = sym (eqb-suc-zero k) ∙ eb in cc)
place_or (suc k) n false e eb ee = let z : suc k - 1 ≡ k = omega arith in ap Ok (sym z)

-- the first of the addresses that is a stands at the place of the lowest slot with a
pub lowest_is : (xs : List ℕ) (a : ℕ) → length xs ≡ 32 → position (λ x. eqb x a) xs ≡ place (lowest_with xs a)
unfolding lowest_with
lowest_is xs a full = go (ltb n (length xs)) refl
  where
    n : ℕ
    n = position_or_len (λ x. eqb x a) xs

    before : (k : ℕ) → k < n → eqb (get_or xs k 0) a ≡ false
    before k h = not-true _ (prefix_len_passes (λ x. not (eqb x a)) xs k 0 h)

    go : (b : Bool) → ltb n (length xs) ≡ b → cond (ltb n (length xs)) (Some n) None ≡ place (first_of (holds xs a) slots)
    go true e =
        let within : n < length xs = ltb-true _ _ e in
        let at : n + 1 - 1 ≡ n = omega arith in
        let here : holds xs a (n + 1) ≡ true = ap (λ (i : ℕ). eqb (get_or xs i 0) a) at ∙ not-false _ (prefix_len_stops (λ x. not (eqb x a)) xs 0 within) in
        let found = first_up (holds xs a) n (omega (arith, full)) (λ (j : ℕ) (l : 1 ≤ j) (m : j ≤ n). before (j - 1) (omega arith)) here in
        ap (λ (b : Bool). cond b (Some n) None) e ∙ sym (ap place found ∙ place_suc n)
    go false e =
        let past : length xs ≤ n = ltb-false _ _ e in
        let none = none_found (holds xs a) 32 32 (λ (j : ℕ) (s : IsSlot j). before (j - 1) (omega (arith, full, s.0, s.1))) in
        ap (λ (b : Bool). cond b (Some n) None) e ∙ sym (ap place none)

-- the next slots, of n that are left to look at from slot k on: the place where the loop stands, and where it goes on
module _ (due : List Bool) (whole : ℕ) where
  pub due_found : (k n : ℕ) → first_of (due_in due) (onward k n) ≡ whole → 0 < n → get_or due (k % 32) false ≡ true → Some (k % 32) ≡ place whole
  due_found k n e h t =
      let at : k % 32 + 1 - 1 ≡ k % 32 = omega arith in
      sym (place_suc (k % 32)) ∙ ap place (found (due_in due) whole k n e h (ap (λ (i : ℕ). get_or due i false) at ∙ t))

  pub due_passed : (start step : ℕ) → first_of (due_in due) (onward (start + step) (32 - step)) ≡ whole → step < 32 → get_or due ((start + step) % 32) false ≡ false
      → first_of (due_in due) (onward (start + (step + 1)) (32 - (step + 1))) ≡ whole
  due_passed start step e h t =
      let k = start + step in
      let at : k % 32 + 1 - 1 ≡ k % 32 = omega arith in
      ap (first_of (due_in due)) (same_way (start + (step + 1)) (k % 32 + 1) (32 - (step + 1)) (omega arith))
      ∙ passed (due_in due) whole k (32 - step) e (32 - (step + 1)) (omega arith) (ap (λ (i : ℕ). get_or due i false) at ∙ t)

-- an address at a place, among the first at + 1
pub not_seen_there : (addresses : List ℕ) (at : ℕ) (seen : List Bool) → at < 32 → Seen addresses at seen → get_or seen (get_or addresses at 0 % 256) false ≡ false
    → held_twice addresses (at + 1) ≡ false
not_seen_there addresses at seen h s e =
    let back : at + 1 - 1 ≡ at = omega arith in
    not_seen addresses at seen h s (ap (λ (i : ℕ). get_or seen (get_or addresses i 0 % 256) false) back ∙ e)

pub one_seen_there : (addresses : List ℕ) (at : ℕ) (seen : List Bool) → Seen addresses at seen → Seen addresses (at + 1) (set seen (get_or addresses at 0 % 256) true)
one_seen_there addresses at seen s =
    let back : at + 1 - 1 ≡ at = omega arith in
    subst (λ (i : ℕ). Seen addresses (at + 1) (set seen (get_or addresses i 0 % 256) true)) back (one_seen addresses at seen s)

-- ---- what a call leaves: e is what its judge refused with, p the place that it gave
module _ {A B : Type 0} (t : Table) (x : B) (y : Answered A) where
  pub left_refused : (n : ℕ) (e : Refusal) → ◌≡◌ {A = Result B Refusal} (Err e) (judged x n) → answered_with {A = A} (Err e) t ≡ answered (λ (m : ℕ). answered_with (refuse m) t) y n
  left_refused zero e j = absurd (cc)
  left_refused (suc n) e j = let z : e ≡ refusal (suc n) = cc in ap (λ (r : Refusal). answered_with {A = A} (Err r) t) z

  pub left_accepted : (n : ℕ) → n ≡ 0 → (z : Answered A) → z ≡ y → z ≡ answered (λ (m : ℕ). answered_with (refuse m) t) y n
  left_accepted n none z e = e ∙ sym (ap (answered (λ (m : ℕ). answered_with (refuse m) t) y) none)

-- the slot k of the place p
slot_at : (k p : ℕ) → IsSlot k → k - 1 ≡ p → p + 1 ≡ k
slot_at k p s e = omega (arith, s.0)

below_32 : (k p : ℕ) → IsSlot k → k - 1 ≡ p → p < 32
below_32 k p s e = omega (arith, s.1, s.0)

module _ (t : Table) (p : ℕ) where
  module _ (a : ℕ) (j : ◌≡◌ {A = Result ℕ Refusal} (Ok p) (judged (lowest_empty t - 1) (first (add_rules t a)))) where
    free : ((first (add_rules t a)) ≡ 0) × (lowest_empty t - 1 ≡ p)
    free = accepted_as _ _ p (sym j)

    there : p + 1 ≡ lowest_empty t
    there = slot_at _ p (add_free t a free.0).0 free.1

    pub free_within : p < 32
    free_within = below_32 _ p (add_free t a free.0).0 free.1

    pub is_added : answered_with (Ok (p + 1)) (record { addresses = set t.addresses p a; due = set t.due p false; last = t.last }) ≡ added t a
    unfolding added
    is_added =
        left_accepted t (lowest_empty t - 1) _ _ free.0 _
        (ap₂ (λ (k i : ℕ). answered_with (Ok k) (record { addresses = set t.addresses i a; due = set t.due i false; last = t.last })) there (sym free.1))

  module _ (k : ℕ) (j : ◌≡◌ {A = Result ℕ Refusal} (Ok p) (judged (k - 1) (first (slot_rules t k)))) where
    at : ((first (slot_rules t k)) ≡ 0) × (k - 1 ≡ p)
    at = accepted_as _ _ p (sym j)

    pub slot_within : p < 32
    slot_within = below_32 k p (slot_there t k at.0).0 at.1

    pub is_changed : (left : ℕ → Table) → answered_with (Ok tt) (left p) ≡ changed t k (left (k - 1))
    unfolding changed
    is_changed left = left_accepted t (k - 1) _ _ at.0 _ (ap (λ (i : ℕ). answered_with (Ok tt) (left i)) (sym at.1))

  module _ (j : ◌≡◌ {A = Result ℕ Refusal} (Ok p) (judged (next_due t - 1) (first (turn_rules t)))) where
    next : ((first (turn_rules t)) ≡ 0) × (next_due t - 1 ≡ p)
    next = accepted_as _ _ p (sym j)

    due : p + 1 ≡ next_due t
    due = slot_at _ p (turn_next t next.0).0 next.1

    pub next_within : p < 32
    next_within = below_32 _ p (turn_next t next.0).0 next.1

    pub is_turned :
        answered_with (Ok (record { slot = p + 1; address = get_or t.addresses p 0 })) (record { addresses = t.addresses; due = set t.due p false; last = p + 1 })
        ≡ turned t
    unfolding turned
    is_turned =
        left_accepted t (next_due t - 1) _ _ next.0 _
        (ap₂ (λ (k i : ℕ). answered_with (Ok (record { slot = k; address = get_or t.addresses i 0 })) (record { addresses = t.addresses; due = set t.due i false; last = k })) due (sym next.1))
