-- What is wrong with a slot, as the code finds it: an address is searched for only where a lower slot's ends with the same byte, an empty slot's with 00.
-- Assumes nothing.
use mathlib.Core.Path.{◌≡◌, refl, sym, ap, ◌∙◌, subst}
use mathlib.Core.Bool.{Bool, true, false, not, ◌||◌, ◌&&◌, true≢false}
use mathlib.Core.List.{List}
use Prim.Native.Nat.{ℕ, zero, suc, ◌+◌, ◌-◌, ◌%◌, ◌<◌, ◌≤◌}
use native.Mathlib.Omega.{arith}
use lib.Dec.{ltb, eqb}
use lib.ListN.{get_or, set, length, length-set}
use lib.Seq.{get_or-set_other, get_or-set_same}
use borrow.Author.Tests.{ltb-false, eqb-true, eqb-false, eq-eqb, ne_eqb}
use Rattle.wire.proofs.Bools.{or_neither}
use Rattle.turns.specs.Table.{address_in, empty_in, due_in, onward, slots, first_of, holds, lowest_with, no_address, held_twice, unfit_slot}
use Rattle.turns.proofs.Round.{same_way, found_up, passed_up}

-- ---- the first of all is the first that passes, from slot 1 up
module _ (test : ℕ → Bool) where
  skipped : (k : ℕ) → k ≤ 32 → ((j : ℕ) → 1 ≤ j → j ≤ k → test j ≡ false) → first_of test (onward k (32 - k)) ≡ first_of test slots
  skipped zero h none = ap (first_of test) (same_way 0 32 32 refl)
  skipped (suc k) h none =
      let e : k + 1 ≡ suc k = omega arith in
      subst (λ (i : ℕ). first_of test (onward i (32 - i)) ≡ first_of test slots) e
      (passed_up test _ k (skipped k (omega arith) (λ (j : ℕ) (l : 1 ≤ j) (m : j ≤ k). none j l (omega arith))) (omega arith)
      (ap test e ∙ none (suc k) (omega arith) (omega arith)))

  pub first_up : (k : ℕ) → k < 32 → ((j : ℕ) → 1 ≤ j → j ≤ k → test j ≡ false) → test (k + 1) ≡ true → first_of test slots ≡ k + 1
  first_up k h none t = sym (found_up test _ k (skipped k (omega arith) none) h t)

or_none : (a : Bool) → (a || false) ≡ a
or_none true = refl
or_none false = refl

not_zero_lem : (a : ℕ) → no_address a ≡ false → eqb a 0 ≡ false
not_zero_lem a o = let h : 1 ≤ a = ltb-false a 1 (or_neither (ltb a 1) (ltb 99999999 a) o).0 in ne_eqb a 0 (λ (z : a ≡ 0). absurd (omega arith))

module _ (addresses : List ℕ) (due : List Bool) (k : ℕ) where
  parts : (b : Bool) → empty_in addresses k ≡ b
      → unfit_slot addresses due k
      ≡ ((not b && no_address (address_in addresses k)) || (not b && not (eqb (lowest_with addresses (address_in addresses k)) k)) || (b && due_in due k))
  unfolding unfit_slot
  parts b e =
      ap (λ (c : Bool). (not c && no_address (address_in addresses k)) || (not c && not (eqb (lowest_with addresses (address_in addresses k)) k)) || (c && due_in due k)) e

  -- what is wrong with a slot that has no address in its range
  pub no_address_slot : no_address (address_in addresses k) ≡ true → (not (eqb (address_in addresses k) 0) || due_in due k) ≡ unfit_slot addresses due k
  no_address_slot o = go (empty_in addresses k) refl
    where
      go : (b : Bool) → empty_in addresses k ≡ b → (not b || due_in due k) ≡ unfit_slot addresses due k
      go true e = sym (parts true e)
      go false e =
          sym (parts false e
          ∙ ap (λ (c : Bool). (c || not (eqb (lowest_with addresses (address_in addresses k)) k)) || false) o)

  -- and with one that has
  pub address_slot : no_address (address_in addresses k) ≡ false → not (eqb (lowest_with addresses (address_in addresses k)) k) ≡ unfit_slot addresses due k
  address_slot o =
      sym (parts false (not_zero_lem (address_in addresses k) o)
      ∙ or_none _
      ∙ ap (λ (c : Bool). c || not (eqb (lowest_with addresses (address_in addresses k)) k)) o)

  -- one whose address no lower slot has
  pub alone_slot : no_address (address_in addresses k) ≡ false → held_twice addresses k ≡ false → false ≡ unfit_slot addresses due k
  alone_slot o h =
      sym h ∙ ap (λ (c : Bool). not c && not (eqb (lowest_with addresses (address_in addresses k)) k)) (not_zero_lem (address_in addresses k) o) ∙ address_slot o

-- ---- the slot at a place, by what the code asks of its address
module _ (addresses : List ℕ) (due : List Bool) (at : ℕ) (r : Bool) (asked : r ≡ no_address (get_or addresses at 0)) where
  back : at + 1 - 1 ≡ at
  back = omega arith

  here : {b : Bool} → r ≡ b → no_address (address_in addresses (at + 1)) ≡ b
  here e = ap (λ (i : ℕ). no_address (get_or addresses i 0)) back ∙ sym asked ∙ e

  pub no_address_there : r ≡ true → (not (eqb (get_or addresses at 0) 0) || get_or due at false) ≡ unfit_slot addresses due (at + 1)
  no_address_there e =
      subst (λ (i : ℕ). (not (eqb (get_or addresses i 0) 0) || get_or due i false) ≡ unfit_slot addresses due (at + 1)) back
      (no_address_slot addresses due (at + 1) (here e))

  pub address_there : r ≡ false → not (eqb (lowest_with addresses (get_or addresses at 0)) (at + 1)) ≡ unfit_slot addresses due (at + 1)
  address_there e =
      subst (λ (i : ℕ). not (eqb (lowest_with addresses (get_or addresses i 0)) (at + 1)) ≡ unfit_slot addresses due (at + 1)) back
      (address_slot addresses due (at + 1) (here e))

  pub alone_there : r ≡ false → held_twice addresses (at + 1) ≡ false → false ≡ unfit_slot addresses due (at + 1)
  alone_there e = alone_slot addresses due (at + 1) (here e)

-- ---- `seen` has the last bytes of the first k addresses
pub record Seen (addresses : List ℕ) (k : ℕ) (seen : List Bool) : Type 0 where
  pub room : length seen ≡ 256
  pub each : (j : ℕ) → 1 ≤ j → j ≤ k → get_or seen (address_in addresses j % 256) false ≡ true

pub none_seen : (addresses : List ℕ) (seen : List Bool) → length seen ≡ 256 → Seen addresses 0 seen
none_seen addresses seen e = record { room = e; each = λ (j : ℕ) (l : 1 ≤ j) (m : j ≤ 0). absurd (omega arith) }

pub one_seen : (addresses : List ℕ) (k : ℕ) (seen : List Bool) → Seen addresses k seen → Seen addresses (k + 1) (set seen (address_in addresses (k + 1) % 256) true)
one_seen addresses k seen s =
    record {
      room = length-set seen (address_in addresses (k + 1) % 256) true ∙ s.room;
      each = λ (j : ℕ) (l : 1 ≤ j) (m : j ≤ k + 1). go j l m (eqb j (k + 1)) refl (eqb (address_in addresses j % 256) (address_in addresses (k + 1) % 256)) refl;
    }
  where
    room : address_in addresses (k + 1) % 256 < length seen
    room = omega (arith, s.room)

    go : (j : ℕ) → 1 ≤ j → j ≤ k + 1 → (b : Bool) → eqb j (k + 1) ≡ b → (c : Bool) → eqb (address_in addresses j % 256) (address_in addresses (k + 1) % 256) ≡ c
        → get_or (set seen (address_in addresses (k + 1) % 256) true) (address_in addresses j % 256) false ≡ true
    go j l m b e true f =
        ap (λ (i : ℕ). get_or (set seen (address_in addresses (k + 1) % 256) true) i false) (eqb-true _ _ f) ∙ get_or-set_same seen _ true false room
    go j l m true e false f = absurd (eqb-false _ _ f (ap (λ (i : ℕ). address_in addresses i % 256) (eqb-true _ _ e)))
    go j l m false e false f =
        let below : j ≤ k = under j k m (eqb-false _ _ e) in
        get_or-set_other seen _ _ true false (eqb-false _ _ f) ∙ s.each j l below
      where
        under : (j k : ℕ) → j ≤ k + 1 → (j ≡ k + 1 → ⊥) → j ≤ k
        under j k m h = omega arith

no_both : (a : Bool) → (a && false) ≡ false
no_both true = refl
no_both false = refl

-- where the last byte of the next address is not among them, no lower slot has that address
pub not_seen : (addresses : List ℕ) (k : ℕ) (seen : List Bool) → k < 32 → Seen addresses k seen → get_or seen (address_in addresses (k + 1) % 256) false ≡ false
    → held_twice addresses (k + 1) ≡ false
unfolding lowest_with
not_seen addresses k seen h s e =
    let a = address_in addresses (k + 1) in
    let other : (j : ℕ) → 1 ≤ j → j ≤ k → holds addresses a j ≡ false =
    λ (j : ℕ) (l : 1 ≤ j) (m : j ≤ k).
    ne_eqb _ _ (λ (q : address_in addresses j ≡ a). true≢false (sym (s.each j l m) ∙ ap (λ (b : ℕ). get_or seen (b % 256) false) q ∙ e))
    in
    ap (λ (b : Bool). not (empty_in addresses (k + 1)) && not b) (eq-eqb _ _ (first_up (holds addresses a) k h other (eq-eqb a a refl)))
    ∙ no_both (not (empty_in addresses (k + 1)))
