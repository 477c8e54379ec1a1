-- A table is refused with 20 just where it is not fit, said of each slot.
-- Assumes nothing.
use mathlib.Core.Path.{◌≡◌, refl, sym, ap, ◌∙◌}
use mathlib.Core.Bool.{Bool, true, false, not, ◌&&◌, ◌||◌}
use Prim.Native.Nat.{ℕ, ◌≤◌}
use native.Mathlib.Omega.{arith}
use lib.Dec.{ltb, eqb}
use borrow.Author.Tests.{ltb-false, le-ltb, eqb-true, eqb-false, eq-eqb, not-false}
use Rattle.wire.proofs.Bools.{or_neither, neither_or}
use Rattle.turns.specs.Table.{IsSlot, address_of, is_due, holds, lowest_with, no_slot, no_address, outside_range, held_twice, empty_due, unfit_slot, unfit}
use Rattle.turns.specs.Calls.{is_empty}
use Rattle.turns.specs.declared.Table.{Table}
use Rattle.turns.proofs.Round.{found_slot, some_found, none_is, is_none}
use Rattle.turns.proofs.Answers.{is_slot}
use Rattle.turns_laws.specs.Fit.{Fit}

module _ (t : Table) (k : ℕ) where
  -- the lowest slot with the address that slot k has is a slot, and has it
  held : IsSlot k → IsSlot (lowest_with t.addresses (address_of t k)) × (address_of t (lowest_with t.addresses (address_of t k)) ≡ address_of t k)
  unfolding lowest_with
  held s =
      let f = found_slot (holds t.addresses (address_of t k)) 32 32 (some_found (holds t.addresses (address_of t k)) 32 k s (eq-eqb (address_of t k) (address_of t k) refl)) in
      (f.0, eqb-true _ _ f.1)

  -- what nothing wrong with slot k means
  pub record Good : Type 0 where
    pub small : address_of t k ≤ 99999999
    pub lowest : (address_of t k ≡ 0 → ⊥) → lowest_with t.addresses (address_of t k) ≡ k
    pub idle : address_of t k ≡ 0 → is_due t k ≡ false

  is_good : unfit_slot t.addresses t.due k ≡ false → Good
  unfolding unfit_slot
  is_good e =
      let all = or_neither (outside_range t.addresses k || held_twice t.addresses k) (empty_due t.addresses t.due k) e in
      let two = or_neither (outside_range t.addresses k) (held_twice t.addresses k) all.0 in
      go (is_empty t k) refl two.0 two.1 all.1
    where
      go : (b : Bool) → is_empty t k ≡ b → (not b && no_address (address_of t k)) ≡ false → (not b && not (eqb (lowest_with t.addresses (address_of t k)) k)) ≡ false
          → (b && is_due t k) ≡ false → Good
      go true z o h d =
          let e : address_of t k ≡ 0 = eqb-true _ _ z in
          record { small = omega arith; lowest = λ some. absurd (some e); idle = λ _. d }
      go false z o h d =
          record {
            small = ltb-false 99999999 (address_of t k) (or_neither (ltb (address_of t k) 1) (ltb 99999999 (address_of t k)) o).1;
            lowest = λ _. eqb-true _ _ (not-false _ h);
            idle = λ e. absurd (eqb-false _ _ z e);
          }

  good_is : Good → unfit_slot t.addresses t.due k ≡ false
  unfolding unfit_slot
  good_is g = go (is_empty t k) refl
    where
      go : (b : Bool) → is_empty t k ≡ b
          → ((not b && no_address (address_of t k)) || (not b && not (eqb (lowest_with t.addresses (address_of t k)) k)) || (b && is_due t k)) ≡ false
      go true z = g.idle (eqb-true _ _ z)
      go false z =
          let some = eqb-false _ _ z in
          let least : 1 ≤ address_of t k = positive (address_of t k) some in
          neither_or _ _
          (neither_or _ _ (neither_or _ _ (le-ltb _ _ least) (le-ltb _ _ g.small)) (ap not (eq-eqb _ _ (g.lowest some))))
          refl
        where
          positive : (a : ℕ) → (a ≡ 0 → ⊥) → 1 ≤ a
          positive a h = omega arith

module _ (t : Table) where
  pub is_fit : unfit t ≡ false → Fit t
  unfolding unfit
  is_fit e =
      let both = or_neither (no_slot t.last) _ e in
      let good : (k : ℕ) → IsSlot k → Good t k = λ (k : ℕ) (s : IsSlot k). is_good t k (none_is (unfit_slot t.addresses t.due) both.1 k s) in
      record {
        asked = is_slot t.last both.0;
        small = λ k s. (good k s).small;
        once = λ j k sj sk h same. sym ((good j sj).lowest (λ (z : address_of t j ≡ 0). h (sym same ∙ z))) ∙ ap (lowest_with t.addresses) same ∙ (good k sk).lowest h;
        idle = λ k s. (good k s).idle;
      }

  pub fit_is : Fit t → unfit t ≡ false
  unfolding unfit
  fit_is f =
      neither_or _ _ (neither_or _ _ (le-ltb _ _ f.asked.0) (le-ltb _ _ f.asked.1))
      (is_none (unfit_slot t.addresses t.due)
      (λ (k : ℕ) (s : IsSlot k).
      good_is t k
      (record {
        small = f.small k s;
        lowest = λ some. f.once _ k (held t k s).0 s some (held t k s).1;
        idle = f.idle k s;
      })))

-- 20 does not hold just where the table is fit
pub fitness : (t : Table) → (unfit t ≡ false → Fit t) × (Fit t → unfit t ≡ false)
fitness t = (is_fit t, fit_is t)
