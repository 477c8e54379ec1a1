-- What each call leaves of a fit table: it stays fit; and one that is no turn and spares slot k leaves a due slot k due, with its address, and
-- the last asked as it was.
-- Assumes nothing.
use mathlib.Core.Path.{◌≡◌, refl, sym, ap, ◌∙◌, subst}
use mathlib.Core.Logic.{⊎_elim}
use mathlib.Core.Bool.{Bool, true, false, true≢false}
use Prim.Native.Nat.{ℕ, zero, suc}
use lib.Dec.{ltb}
use borrow.Author.Tests.{ltb-false, eqb-false}
use Rattle.wire.specs.Answer.{answered, refuse}
use Rattle.wire.specs.Refusal.{first}
use Rattle.wire.proofs.Bools.{or_neither}
use Rattle.wire.proofs.Rules.{none_first}
use Rattle.turns.specs.Table.{IsSlot, address_of, is_due, holds, next_due, lowest_empty, with_address, with_due, asked}
use Rattle.turns.specs.Calls.{answered_with, Turned, Changed, Added, add_rules, slot_rules, turn_rules, added, changed, removed, marked, cleared, turned}
use Rattle.turns.specs.declared.Table.{Table}
use Rattle.turns.proofs.Answers.{add_free, slot_there, turn_next}
use Rattle.turns.proofs.Round.{none_is}
use Rattle.turns_laws.specs.Fit.{Fit}
use Rattle.turns_laws.proofs.Changes.{Changes, still_fit, adding, removing, duing, set_there, same_or_not}

-- what holds of the table that was given, and where nothing is refused of the new one, holds of the table that is left
pub either : {A : Type 0} (P : A → Type 0) (refuse : ℕ → A) (accept : A) (n : ℕ) → ((m : ℕ) → P (refuse m)) → (n ≡ 0 → P accept) → P (answered refuse accept n)
either P refuse accept zero p h = h refl
either P refuse accept (suc n) p h = p (suc n)

module _ (P : Table → Type 0) (t : Table) (given : P t) where
  pub added_either : (a : ℕ) → (first (add_rules t a) ≡ 0 → P (with_due (with_address t (lowest_empty t) a) (lowest_empty t) false)) → P (added t a).table
  unfolding added
  added_either a h = either (λ (r : Added). P r.table) (λ (n : ℕ). answered_with (refuse n) t) _ (first (add_rules t a)) (λ m. given) h

  pub changed_either : (k : ℕ) (t' : Table) → (first (slot_rules t k) ≡ 0 → P t') → P (changed t k t').table
  unfolding changed
  changed_either k t' h = either (λ (r : Changed). P r.table) (λ (n : ℕ). answered_with (refuse n) t) _ (first (slot_rules t k)) (λ m. given) h

  pub turned_either : (first (turn_rules t) ≡ 0 → P (asked (with_due t (next_due t) false) (next_due t))) → P (turned t).table
  unfolding turned
  turned_either h = either (λ (r : Turned). P r.table) (λ (n : ℕ). answered_with (refuse n) t) _ (first (turn_rules t)) (λ m. given) h

module _ (t : Table) (f : Fit t) where
  -- a slot that is due has an address
  pub due_some : (k : ℕ) → IsSlot k → is_due t k ≡ true → address_of t k ≡ 0 → ⊥
  due_some k s d z = true≢false (sym d ∙ f.idle k s z)

  -- what each accepted call changes
  pub add_changes : (a : ℕ) → first (add_rules t a) ≡ 0 → Changes (lowest_empty t) t (with_due (with_address t (lowest_empty t) a) (lowest_empty t) false)
  add_changes a z =
      let p = none_first (add_rules t a) tt z in
      adding t f (lowest_empty t) (add_free t a z).0 a (ltb-false _ _ (or_neither (ltb a 1) (ltb 99999999 a) p.1.0).1)
      (λ (j : ℕ) (s : IsSlot j). eqb-false _ _ (none_is (holds t.addresses a) p.1.1.0 j s))

  remove_changes : (k : ℕ) → first (slot_rules t k) ≡ 0 → Changes k t (with_due (with_address t k 0) k false)
  remove_changes k z = removing t f k (slot_there t k z).0

  due_changes : (k : ℕ) → first (slot_rules t k) ≡ 0 → (d : Bool) → Changes k t (with_due t k d)
  due_changes k z d = duing t f k (slot_there t k z).0 (slot_there t k z).1 d t.last f.asked

  pub turn_changes : first (turn_rules t) ≡ 0 → Changes (next_due t) t (asked (with_due t (next_due t) false) (next_due t))
  turn_changes z =
      let n = turn_next t z in
      duing t f (next_due t) n.0 (due_some (next_due t) n.0 n.1) false (next_due t) n.0

  -- ---- fit it stays
  pub add_fit : (a : ℕ) → Fit (added t a).table
  add_fit a = added_either Fit t f a (λ (z : first (add_rules t a) ≡ 0). still_fit _ t _ f (add_changes a z))

  pub remove_fit : (k : ℕ) → Fit (removed t k).table
  remove_fit k = changed_either Fit t f k _ (λ (z : first (slot_rules t k) ≡ 0). still_fit _ t _ f (remove_changes k z))

  pub due_fit : (k : ℕ) (d : Bool) → Fit (changed t k (with_due t k d)).table
  due_fit k d = changed_either Fit t f k _ (λ (z : first (slot_rules t k) ≡ 0). still_fit _ t _ f (due_changes k z d))

  pub turn_fit : Fit (turned t).table
  turn_fit = turned_either Fit t f (λ (z : first (turn_rules t) ≡ 0). still_fit _ t _ f (turn_changes z))

-- ---- a due slot is kept
pub record Keeps (k : ℕ) (t t' : Table) : Type 0 where
  pub due : is_due t' k ≡ true
  pub address : address_of t' k ≡ address_of t k
  pub last : t'.last ≡ t.last

module _ (t : Table) (f : Fit t) (k : ℕ) (s : IsSlot k) (d : is_due t k ≡ true) where
  keeps_all : Keeps k t t
  keeps_all = record { due = d; address = refl; last = refl }

  elsewhere : (e : ℕ) (t' : Table) → Changes e t t' → (k ≡ e → ⊥) → t'.last ≡ t.last → Keeps k t t'
  elsewhere e t' c q l = record { due = c.dues k s q ∙ d; address = c.addresses k s q; last = l }

  pub add_keeps : (a : ℕ) → Keeps k t (added t a).table
  add_keeps a =
      added_either (Keeps k t) t keeps_all a
      (λ (z : first (add_rules t a) ≡ 0).
      elsewhere (lowest_empty t) _ (add_changes t f a z) (λ (q : k ≡ lowest_empty t). due_some t f k s d (ap (address_of t) q ∙ (add_free t a z).1)) refl)

  pub remove_keeps : (j : ℕ) → (j ≡ k → ⊥) → Keeps k t (removed t j).table
  remove_keeps j h =
      changed_either (Keeps k t) t keeps_all j _ (λ (z : first (slot_rules t j) ≡ 0). elsewhere j _ (remove_changes t f j z) (λ (q : k ≡ j). h (sym q)) refl)

  pub clear_keeps : (j : ℕ) → (j ≡ k → ⊥) → Keeps k t (cleared t j).table
  clear_keeps j h =
      changed_either (Keeps k t) t keeps_all j _ (λ (z : first (slot_rules t j) ≡ 0). elsewhere j _ (due_changes t f j z false) (λ (q : k ≡ j). h (sym q)) refl)

  pub mark_keeps : (j : ℕ) → Keeps k t (marked t j).table
  mark_keeps j =
      changed_either (Keeps k t) t keeps_all j _
      (λ (z : first (slot_rules t j) ≡ 0).
      ⊎_elim (λ (q : k ≡ j). subst (λ (i : ℕ). Keeps k t (with_due t i true)) q (record { due = set_there t.due _ true false d; address = refl; last = refl }))
      (λ (q : k ≡ j → ⊥). elsewhere j _ (due_changes t f j z true) q refl)
      (same_or_not k j))
