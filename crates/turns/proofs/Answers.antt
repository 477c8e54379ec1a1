-- What the code finds is what the rules and the calls say.
-- Assumes nothing.
use mathlib.Core.Path.{◌≡◌, refl, ap, ◌∙◌}
use mathlib.Core.Bool.{Bool, true, false, not}
use mathlib.Core.List.{List}
use Prim.Native.Nat.{ℕ}
use lib.Dec.{ltb, eqb}
use borrow.Author.Tests.{ltb-false, eqb-true, eqb-false}
use Rattle.wire.specs.Refusal.{first}
use Rattle.wire.proofs.Bools.{or_neither}
use Rattle.wire.proofs.Rules.{none_first}
use Rattle.turns.specs.Table.{IsSlot, address_of, is_due, due_in, holds, some, next_after, next_due, lowest_with, lowest_empty, no_slot}
use Rattle.turns.specs.Calls.{is_empty, add_rules, slot_rules, turn_rules}
use Rattle.turns.specs.declared.Table.{Table}
use Rattle.turns.proofs.Round.{found_slot, some_is}

pub is_slot : (k : ℕ) → no_slot k ≡ false → IsSlot k
is_slot k e =
    let both = or_neither (ltb k 1) (ltb 32 k) e in
    (ltb-false k 1 both.0, ltb-false 32 k both.1)

twice : (b : Bool) → b ≡ not (not b)
twice true = refl
twice false = refl

-- "no empty slot" and "no slot is due", as the searches show them
pub full_is : (addresses : List ℕ) (k : ℕ) → k ≡ lowest_with addresses 0 → eqb k 0 ≡ not (some (holds addresses 0))
unfolding lowest_with
full_is addresses k e = ap (λ (i : ℕ). eqb i 0) e ∙ twice (eqb (lowest_with addresses 0) 0) ∙ ap not (some_is (holds addresses 0) 32)

pub none_due_is : (due : List Bool) (last k : ℕ) → k ≡ next_after due last → eqb k 0 ≡ not (some (due_in due))
unfolding next_after
none_due_is due last k e = ap (λ (i : ℕ). eqb i 0) e ∙ twice (eqb (next_after due last) 0) ∙ ap not (some_is (due_in due) last)

-- ---- what no rule's holding gives
module _ (t : Table) where
  pub add_free : (a : ℕ) → first (add_rules t a) ≡ 0 → IsSlot (lowest_empty t) × (address_of t (lowest_empty t) ≡ 0)
  unfolding lowest_with
  add_free a e =
      let f = found_slot (is_empty t) 32 32 (eqb-false _ _ (full_is t.addresses _ refl ∙ (none_first (add_rules t a) tt e).1.1.1.0)) in
      (f.0, eqb-true _ _ f.1)

  pub slot_there : (k : ℕ) → first (slot_rules t k) ≡ 0 → IsSlot k × (address_of t k ≡ 0 → ⊥)
  slot_there k e =
      let p = none_first (slot_rules t k) tt e in
      (is_slot k p.1.0, eqb-false _ _ p.1.1.0)

  pub turn_next : first (turn_rules t) ≡ 0 → IsSlot (next_due t) × (is_due t (next_due t) ≡ true)
  unfolding next_after
  turn_next e = found_slot (is_due t) t.last 32 (eqb-false _ _ (none_due_is t.due t.last _ refl ∙ (none_first (turn_rules t) tt e).1.0))
