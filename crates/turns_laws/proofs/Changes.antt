-- Where a call changes one slot of a fit table, the table stays fit.
-- Assumes nothing.
use mathlib.Core.Path.{◌≡◌, refl, sym, ap, ◌∙◌, subst}
use mathlib.Core.Logic.{◌⊎◌, inl, inr, ⊎_elim}
use mathlib.Core.Bool.{Bool, true, false}
use mathlib.Core.List.{List, [], ◌∷◌}
use Prim.Native.Nat.{ℕ, zero, suc, ◌-◌, ◌≤◌}
use native.Mathlib.Omega.{arith}
use lib.Dec.{eqb}
use lib.ListN.{get_or, set}
use lib.Seq.{get_or-set_other}
use borrow.Author.Tests.{eqb-true, eqb-false}
use Rattle.turns.specs.Table.{IsSlot, address_of, is_due, with_address, with_due}
use Rattle.turns.specs.declared.Table.{Table}
use Rattle.turns_laws.specs.Fit.{Fit}

pub same_or_not : (j e : ℕ) → (j ≡ e) ⊎ (j ≡ e → ⊥)
same_or_not j e = go (eqb j e) refl
  where
    go : (b : Bool) → eqb j e ≡ b → (j ≡ e) ⊎ (j ≡ e → ⊥)
    go true t = inl (eqb-true j e t)
    go false t = inr (eqb-false j e t)

-- ---- what a store leaves: at its place the new value, or the default past the end; elsewhere what was there
module _ {A : Type 0} where
  pub set_at : (xs : List A) (i : ℕ) (v d : A) → (get_or (set xs i v) i d ≡ v) ⊎ (get_or (set xs i v) i d ≡ d)
  set_at [] i v d = inr refl
  set_at (x ∷ xs) zero v d = inl refl
  set_at (x ∷ xs) (suc i) v d = set_at xs i v d

  pub set_default : (xs : List A) (i : ℕ) (d : A) → get_or (set xs i d) i d ≡ d
  set_default xs i d = ⊎_elim (λ e. e) (λ e. e) (set_at xs i d d)

  pub set_off : (xs : List A) (j e : ℕ) (v d : A) → IsSlot j → IsSlot e → (j ≡ e → ⊥) → get_or (set xs (e - 1) v) (j - 1) d ≡ get_or xs (j - 1) d
  set_off xs j e v d sj se h = get_or-set_other xs (e - 1) (j - 1) v d (λ (q : j - 1 ≡ e - 1). h (omega (arith, sj.0, se.0)))

  -- what is there stays
  pub set_there : (xs : List A) (i : ℕ) (v d : A) → get_or xs i d ≡ v → get_or (set xs i v) i d ≡ v
  set_there [] i v d e = e
  set_there (x ∷ xs) zero v d e = refl
  set_there (x ∷ xs) (suc i) v d e = set_there xs i v d e

-- ---- t' is t but for slot e, and nothing is wrong with that slot
pub record Changes (e : ℕ) (t t' : Table) : Type 0 where
  pub asked : IsSlot t'.last
  pub addresses : (j : ℕ) → IsSlot j → (j ≡ e → ⊥) → address_of t' j ≡ address_of t j
  pub dues : (j : ℕ) → IsSlot j → (j ≡ e → ⊥) → is_due t' j ≡ is_due t j
  pub small : address_of t' e ≤ 99999999
  pub alone : (address_of t' e ≡ 0 → ⊥) → (j : ℕ) → IsSlot j → (j ≡ e → ⊥) → address_of t j ≡ address_of t' e → ⊥
  pub idle : address_of t' e ≡ 0 → is_due t' e ≡ false

module _ (e : ℕ) (t t' : Table) (f : Fit t) (c : Changes e t t') where
  small_still : (k : ℕ) → IsSlot k → address_of t' k ≤ 99999999
  small_still k s =
      ⊎_elim (λ (q : k ≡ e). subst (λ (i : ℕ). address_of t' i ≤ 99999999) (sym q) c.small)
      (λ (q : k ≡ e → ⊥). subst (λ (a : ℕ). a ≤ 99999999) (sym (c.addresses k s q)) (f.small k s))
      (same_or_not k e)

  once_still : (j k : ℕ) → IsSlot j → IsSlot k → (address_of t' k ≡ 0 → ⊥) → address_of t' j ≡ address_of t' k → j ≡ k
  once_still j k sj sk h same = ⊎_elim (λ (q : j ≡ e). at q) (λ (q : j ≡ e → ⊥). off q) (same_or_not j e)
    where
      at : j ≡ e → j ≡ k
      at q =
          ⊎_elim (λ (p : k ≡ e). q ∙ sym p)
          (λ (p : k ≡ e → ⊥).
          let here : address_of t' e ≡ address_of t' k = ap (address_of t') (sym q) ∙ same in
          absurd (c.alone (λ (z : address_of t' e ≡ 0). h (sym here ∙ z)) k sk p (sym (c.addresses k sk p) ∙ sym here)))
          (same_or_not k e)

      off : (j ≡ e → ⊥) → j ≡ k
      off q =
          ⊎_elim (λ (p : k ≡ e).
          let here : address_of t' k ≡ address_of t' e = ap (address_of t') p in
          absurd (c.alone (λ (z : address_of t' e ≡ 0). h (here ∙ z)) j sj q (sym (c.addresses j sj q) ∙ same ∙ here)))
          (λ (p : k ≡ e → ⊥). f.once j k sj sk (λ (z : address_of t k ≡ 0). h (c.addresses k sk p ∙ z)) (sym (c.addresses j sj q) ∙ same ∙ c.addresses k sk p))
          (same_or_not k e)

  idle_still : (k : ℕ) → IsSlot k → address_of t' k ≡ 0 → is_due t' k ≡ false
  idle_still k s z =
      ⊎_elim (λ (q : k ≡ e). ap (is_due t') q ∙ c.idle (ap (address_of t') (sym q) ∙ z))
      (λ (q : k ≡ e → ⊥). c.dues k s q ∙ f.idle k s (sym (c.addresses k s q) ∙ z))
      (same_or_not k e)

  pub still_fit : Fit t'
  still_fit = record { asked = c.asked; small = small_still; once = once_still; idle = idle_still }

-- ---- the changes that calls make
module _ (t : Table) (f : Fit t) (e : ℕ) (se : IsSlot e) where
  pub adding : (a : ℕ) → a ≤ 99999999 → ((j : ℕ) → IsSlot j → address_of t j ≡ a → ⊥) → Changes e t (with_due (with_address t e a) e false)
  adding a h new =
      record {
        asked = f.asked;
        addresses = λ j sj q. set_off t.addresses j e a 0 sj se q;
        dues = λ j sj q. set_off t.due j e false false sj se q;
        small =
            ⊎_elim (λ (v : get_or (set t.addresses (e - 1) a) (e - 1) 0 ≡ a). subst (λ (x : ℕ). x ≤ 99999999) (sym v) h)
            (λ (v : get_or (set t.addresses (e - 1) a) (e - 1) 0 ≡ 0). subst (λ (x : ℕ). x ≤ 99999999) (sym v) (omega arith))
            (set_at t.addresses (e - 1) a 0);
        alone = λ some j sj q same. ⊎_elim (λ v. new j sj (same ∙ v)) (λ v. some v) (set_at t.addresses (e - 1) a 0);
        idle = λ z. set_default t.due (e - 1) false;
      }

  pub removing : Changes e t (with_due (with_address t e 0) e false)
  removing =
      let empty : get_or (set t.addresses (e - 1) 0) (e - 1) 0 ≡ 0 = set_default t.addresses (e - 1) 0 in
      record {
        asked = f.asked;
        addresses = λ j sj q. set_off t.addresses j e 0 0 sj se q;
        dues = λ j sj q. set_off t.due j e false false sj se q;
        small = subst (λ (x : ℕ). x ≤ 99999999) (sym empty) (omega arith);
        alone = λ some j sj q same. some empty;
        idle = λ z. set_default t.due (e - 1) false;
      }

  -- of a slot with an address: due or not, and the last asked as it may be
  pub duing : (address_of t e ≡ 0 → ⊥) → (d : Bool) (last : ℕ) → IsSlot last
      → Changes e t (record { addresses = t.addresses; due = set t.due (e - 1) d; last = last })
  duing some d last sl =
      record {
        asked = sl;
        addresses = λ j sj q. refl;
        dues = λ j sj q. set_off t.due j e d false sj se q;
        small = f.small e se;
        alone = λ h j sj q same. q (f.once j e sj se h same);
        idle = λ z. absurd (some z);
      }
