-- The addresses in a table that calls made from a new one are those added and not removed.
-- Assumes nothing.
use mathlib.Core.Path.{◌≡◌, refl, sym, ap, ◌∙◌, subst}
use mathlib.Core.Logic.{◌⊎◌, inl, inr, ⊎_elim}
use mathlib.Core.Bool.{Bool, true, false, true≢false}
use mathlib.Core.List.{List, [], ◌∷◌, ◌++◌}
use Prim.Native.Nat.{ℕ, suc, ◌-◌, ◌≤◌}
use native.Mathlib.Omega.{arith}
use lib.Dec.{ltb}
use lib.ListN.{length, get_or, drop, length-set}
use lib.Seq.{get_or-set_same}
use borrow.Author.Tests.{ltb-false, le-ltb, eqb-true}
use Rattle.wire.specs.Answer.{answered, refuse}
use Rattle.wire.specs.Refusal.{first}
use Rattle.wire.specs.Told.{Told, accepted}
use Rattle.wire.proofs.Bools.{or_neither, neither_or}
use Rattle.wire.proofs.Rules.{none_first, first_none}
use Rattle.turns.specs.Table.{IsSlot, address_of, lowest_empty, with_address, with_due}
use Rattle.turns.specs.Calls.{answered_with, Turned, Changed, Added, is_empty, add_rules, slot_rules, added, changed, removed, told_adding, told_changing}
use Rattle.turns.specs.declared.Table.{Table}
use Rattle.turns.proofs.Answers.{add_free, slot_there}
use Rattle.turns_laws.specs.Fit.{Fit}
use Rattle.turns_laws.specs.Course.{Call, Add, Remove, Mark, Clear, Turn, Exchange, exchange, ByCall, of_add, of_remove, of_mark, of_clear, of_turn, Course, EachCall}
use Rattle.turns_laws.specs.Held.{Holds, Stays, AddedAt}
use Rattle.turns_laws.proofs.Fitness.{fit_is}
use Rattle.turns_laws.proofs.Changes.{same_or_not, set_default, set_off}
use Rattle.turns_laws.proofs.Kept.{either, added_either, changed_either, turned_either, add_fit, remove_fit, due_fit, turn_fit}

-- ---- fit tables of 32 addresses
pub record Whole (t : Table) : Type 0 where
  pub fit : Fit t
  pub addresses : length t.addresses ≡ 32

abbrev Long : Table → Type 0
Long t = length t.addresses ≡ 32

pub stays_whole : (t : Table) (x : Exchange) (v : Table) → ByCall t x v → Whole t → Whole v
stays_whole _ _ _ (of_add κs c r e met) w =
    subst (λ (x : Added). Whole x.table) (sym met)
    (record {
      fit = add_fit c.0 w.fit c.1.0;
      addresses = added_either Long c.0 w.addresses c.1.0 (λ z. length-set c.0.addresses (lowest_empty c.0 - 1) c.1.0 ∙ w.addresses);
    })
stays_whole _ _ _ (of_remove κs c r e met) w =
    subst (λ (x : Changed). Whole x.table) (sym met)
    (record {
      fit = remove_fit c.0 w.fit c.1.0;
      addresses = changed_either Long c.0 w.addresses c.1.0 _ (λ z. length-set c.0.addresses (c.1.0 - 1) 0 ∙ w.addresses);
    })
stays_whole _ _ _ (of_mark κs c r e met) w =
    subst (λ (x : Changed). Whole x.table) (sym met)
    (record { fit = due_fit c.0 w.fit c.1.0 true; addresses = changed_either Long c.0 w.addresses c.1.0 _ (λ z. w.addresses) })
stays_whole _ _ _ (of_clear κs c r e met) w =
    subst (λ (x : Changed). Whole x.table) (sym met)
    (record { fit = due_fit c.0 w.fit c.1.0 false; addresses = changed_either Long c.0 w.addresses c.1.0 _ (λ z. w.addresses) })
stays_whole _ _ _ (of_turn κs c r e met) w =
    subst (λ (x : Turned). Whole x.table) (sym met)
    (record { fit = turn_fit c.0 w.fit; addresses = turned_either Long c.0 w.addresses (λ z. w.addresses) })

-- ---- what a call does to the address of slot k
abbrev is_add : Call → Bool
is_add (Add a) = true
is_add (Remove k) = false
is_add (Mark k) = false
is_add (Clear k) = false
is_add Turn = false

abbrev is_remove : Call → Bool
is_remove (Add a) = false
is_remove (Remove k) = true
is_remove (Mark k) = false
is_remove (Clear k) = false
is_remove Turn = false

-- the slot or the address that a call takes
abbrev taken : Call → ℕ
taken (Add a) = a
taken (Remove k) = k
taken (Mark k) = k
taken (Clear k) = k
taken Turn = 0

no_remove : (k : ℕ) (c : Call) → is_remove c ≡ false → Stays k c
no_remove k c e q = true≢false (sym (ap is_remove q) ∙ e)

-- the address is not added to slot k by this call
abbrev Elsewhere : ℕ → Exchange → Type 0
Elsewhere k x = (a : ℕ) → x ≡ exchange (Add a) (accepted (k ∷ [])) → ⊥

no_add : (k : ℕ) (c : Call) (r : Told) → is_add c ≡ false → Elsewhere k (exchange c r)
no_add k c r e a q = true≢false (sym (ap (λ (x : Exchange). is_add x.call) q) ∙ e)

data Effect (k : ℕ) (t : Table) (x : Exchange) (v : Table) : Type 0 where
  stood : address_of v k ≡ address_of t k → Stays k x.call → Elsewhere k x → Effect k t x v
  came : (a : ℕ) → x ≡ exchange (Add a) (accepted (k ∷ [])) → address_of t k ≡ 0 → Holds v k a → Effect k t x v
  went : x.call ≡ Remove k → address_of v k ≡ 0 → Effect k t x v

module _ (t : Table) (w : Whole t) (k : ℕ) (s : IsSlot k) where
  add_effect : (a : ℕ) → Effect k t (exchange (Add a) (told_adding (added t a).answer)) (added t a).table
  unfolding added
  add_effect a =
      either (λ (r : Added). Effect k t (exchange (Add a) (told_adding r.answer)) r.table) (λ (n : ℕ). answered_with (refuse n) t) _ (first (add_rules t a))
      (λ m. stood refl (no_remove k (Add a) refl) (λ b q. let z : ◌≡◌ {A = ℕ} 0 1 = ap (λ (x : Exchange). length x.told.values) q in absurd (omega arith)))
      (λ (z : first (add_rules t a) ≡ 0). ⊎_elim (λ (q : k ≡ lowest_empty t). here z q) (λ (q : k ≡ lowest_empty t → ⊥). there z q) (same_or_not k (lowest_empty t)))
    where
      table : Table
      table = with_due (with_address t (lowest_empty t) a) (lowest_empty t) false

      here : first (add_rules t a) ≡ 0 → k ≡ lowest_empty t → Effect k t (exchange (Add a) (accepted (lowest_empty t ∷ []))) table
      here z q =
          let p = none_first (add_rules t a) tt z in
          let free = add_free t a z in
          came a (ap (λ (i : ℕ). exchange (Add a) (accepted (i ∷ []))) (sym q)) (ap (address_of t) q ∙ free.1) (
            ap (λ (i : ℕ). address_of table i) q ∙ get_or-set_same t.addresses (lowest_empty t - 1) a 0 (omega (arith, w.addresses, free.0.0, free.0.1)),
            λ (e : a ≡ 0). let l : 1 ≤ a = ltb-false a 1 (or_neither (ltb a 1) (ltb 99999999 a) p.1.0).0 in absurd (omega arith),
          )

      there : first (add_rules t a) ≡ 0 → (k ≡ lowest_empty t → ⊥) → Effect k t (exchange (Add a) (accepted (lowest_empty t ∷ []))) table
      there z q =
          stood (set_off t.addresses k (lowest_empty t) a 0 s (add_free t a z).0 q) (no_remove k (Add a) refl)
          (λ b e. q (sym (ap (λ (x : Exchange). get_or x.told.values 0 0) e)))

  remove_effect : (j : ℕ) → Effect k t (exchange (Remove j) (told_changing (removed t j).answer)) (removed t j).table
  unfolding changed
  remove_effect j = ⊎_elim (λ (q : k ≡ j). here q) (λ (q : k ≡ j → ⊥). there q) (same_or_not k j)
    where
      -- slot k is empty afterwards: it was, or the call was accepted
      gone : (b : Bool) → is_empty t k ≡ b → address_of (removed t k).table k ≡ 0
      gone true e = changed_either (λ u. address_of u k ≡ 0) t (eqb-true _ _ e) k _ (λ z. set_default t.addresses (k - 1) 0)
      gone false e =
          ap (λ (r : Changed). address_of r.table k)
          (ap (answered (λ (n : ℕ). answered_with (refuse n) t) _)
          (first_none (slot_rules t k) (fit_is t w.fit, (neither_or _ _ (le-ltb _ _ s.0) (le-ltb _ _ s.1), (e, tt)))))
          ∙ set_default t.addresses (k - 1) 0

      here : k ≡ j → Effect k t (exchange (Remove j) (told_changing (removed t j).answer)) (removed t j).table
      here q = went (ap Remove (sym q)) (ap (λ (i : ℕ). address_of (removed t i).table k) (sym q) ∙ gone (is_empty t k) refl)

      there : (k ≡ j → ⊥) → Effect k t (exchange (Remove j) (told_changing (removed t j).answer)) (removed t j).table
      there q =
          stood
          (changed_either (λ u. address_of u k ≡ address_of t k) t refl j _ (λ z. set_off t.addresses k j 0 0 s (slot_there t j z).0 q))
          (λ (e : Remove j ≡ Remove k). q (sym (ap taken e)))
          (no_add k (Remove j) _ refl)

due_effect : (t : Table) (k j : ℕ) (d : Bool) (r : Changed) → r ≡ changed t j (with_due t j d) → address_of r.table k ≡ address_of t k
due_effect t k j d r met =
    subst (λ (x : Changed). address_of x.table k ≡ address_of t k) (sym met)
    (changed_either (λ u. address_of u k ≡ address_of t k) t refl j _ (λ z. refl))

effect : (t : Table) (x : Exchange) (v : Table) → ByCall t x v → Whole t → (k : ℕ) → IsSlot k → Effect k t x v
effect _ _ _ (of_add κs c r e met) w k s =
    subst (λ (x : Added). Effect k c.0 (exchange (Add c.1.0) (told_adding x.answer)) x.table) (sym met) (add_effect c.0 w k s c.1.0)
effect _ _ _ (of_remove κs c r e met) w k s =
    subst (λ (x : Changed). Effect k c.0 (exchange (Remove c.1.0) (told_changing x.answer)) x.table) (sym met) (remove_effect c.0 w k s c.1.0)
effect _ _ _ (of_mark κs c r e met) w k s =
    stood (due_effect c.0 k c.1.0 true r met) (no_remove k (Mark c.1.0) refl) (no_add k (Mark c.1.0) _ refl)
effect _ _ _ (of_clear κs c r e met) w k s =
    stood (due_effect c.0 k c.1.0 false r met) (no_remove k (Clear c.1.0) refl) (no_add k (Clear c.1.0) _ refl)
effect _ _ _ (of_turn κs c r e met) w k s =
    stood
    (subst (λ (x : Turned). address_of x.table k ≡ address_of c.0 k) (sym met)
    (turned_either (λ u. address_of u k ≡ address_of c.0 k) c.0 refl (λ z. refl)))
    (no_remove k Turn refl)
    (no_add k Turn _ refl)

-- ---- over calls
module _ (k : ℕ) (s : IsSlot k) (a : ℕ) where
  -- what slot k holds at the end it held at the beginning, and was not removed; or it was added to it
  abbrev pub Origin : Table → List Exchange → Type 0
  Origin t xs = (Holds t k a × EachCall (Stays k) xs) ⊎ AddedAt k a xs

  -- one call more before the others
  earlier : (t : Table) (x : Exchange) (v : Table) (xs : List Exchange) → Effect k t x v → Origin v xs → Origin t (x ∷ xs)
  unfolding EachCall
  earlier t x v xs e (inr h) = inr (record { before = x ∷ h.before; since = h.since; added = ap (λ (ys : List Exchange). x ∷ ys) h.added; kept = h.kept })
  earlier t x v xs (stood same stays off) (inl h) = inl ((sym same ∙ h.0.0, h.0.1), (stays, h.1))
  earlier t x v xs (came b q empty held) (inl h) =
      inr (record {
        before = [];
        since = xs;
        added = ap (λ (y : Exchange). y ∷ xs) q ∙ ap (λ (c : ℕ). exchange (Add c) (accepted (k ∷ [])) ∷ xs) (sym held.0 ∙ h.0.0);
        kept = h.1;
      })
  earlier t x v xs (went q z) (inl h) = absurd (h.0.1 (sym h.0.0 ∙ z))

  pub origin : (xs : List Exchange) (t u : Table) → Course t xs u → Whole t → Holds u k a → Origin t xs
  unfolding Course EachCall
  origin [] t u c w h = inl ((ap (λ (x : Table). address_of x k) (sym c) ∙ h.0, h.1), tt)
  origin (x ∷ xs) t u c w h = earlier t x c.0 xs (effect t x c.0 c.1 w k s) (origin xs c.0 u c.2 (stays_whole t x c.0 c.1 w) h)

  -- a slot that holds an address, and is not removed, holds it still
  holds_on : (t : Table) (x : Exchange) (v : Table) → Effect k t x v → Holds t k a → Stays k x.call → Holds v k a
  holds_on t x v (stood same stays off) h n = (same ∙ h.0, h.1)
  holds_on t x v (came b q empty held) h n = absurd (h.1 (sym h.0 ∙ empty))
  holds_on t x v (went q z) h n = absurd (n q)

  holds_still : (xs : List Exchange) (t u : Table) → Course t xs u → Whole t → Holds t k a → EachCall (Stays k) xs → Holds u k a
  unfolding Course EachCall
  holds_still [] t u c w h n = (ap (λ (x : Table). address_of x k) c ∙ h.0, h.1)
  holds_still (x ∷ xs) t u c w h n =
      holds_still xs c.0 u c.2 (stays_whole t x c.0 c.1 w) (holds_on t x c.0 (effect t x c.0 c.1 w k s) h n.0) n.1

  -- an address that was added is there
  holds_then : (t : Table) (x : Exchange) (v : Table) → Effect k t x v → x ≡ exchange (Add a) (accepted (k ∷ [])) → Holds v k a
  holds_then t x v (stood same stays off) q = absurd (off a q)
  holds_then t x v (came b p empty held) q = subst (Holds v k) (ap (λ (y : Exchange). taken y.call) (sym p ∙ q)) held
  holds_then t x v (went p z) q = absurd (true≢false (sym (ap (λ (y : Exchange). is_add y.call) q) ∙ ap is_add p))

  pub holds_added : (before xs since : List Exchange) (t u : Table) → Course t xs u → Whole t
      → xs ≡ before ++ (exchange (Add a) (accepted (k ∷ [])) ∷ since) → EachCall (Stays k) since → Holds u k a
  unfolding Course
  holds_added before [] since t u c w e n = absurd (nothing before e)
    where
      nothing : (before : List Exchange) → [] ≡ before ++ (exchange (Add a) (accepted (k ∷ [])) ∷ since) → ⊥
      nothing [] e = let z : ◌≡◌ {A = ℕ} 0 (suc (length since)) = ap length e in absurd (omega arith)
      nothing (y ∷ ys) e = let z : ◌≡◌ {A = ℕ} 0 (suc (length (ys ++ (exchange (Add a) (accepted (k ∷ [])) ∷ since)))) = ap length e in absurd (omega arith)
  holds_added [] (x ∷ xs) since t u c w e n =
      holds_still xs c.0 u c.2 (stays_whole t x c.0 c.1 w)
      (holds_then t x c.0 (effect t x c.0 c.1 w k s) (ap (first_of x) e))
      (subst (EachCall (Stays k)) (sym (ap (drop 1) e)) n)
    where
      first_of : Exchange → List Exchange → Exchange
      first_of d [] = d
      first_of d (y ∷ ys) = y
  holds_added (y ∷ ys) (x ∷ xs) since t u c w e n = holds_added ys xs since c.0 u c.2 (stays_whole t x c.0 c.1 w) (ap (drop 1) e) n
