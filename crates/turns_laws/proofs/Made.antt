-- Every table that calls make from a new one is fit, so 20 never comes; and the addresses in it are those added and not removed, each once.
-- Assumes nothing.
use mathlib.Core.Path.{◌≡◌, refl, sym, ap, ◌∙◌, subst}
use mathlib.Core.Logic.{⊎_elim}
use mathlib.Core.Bool.{Bool, true, false, not, ◌&&◌}
use mathlib.Core.List.{List, [], ◌∷◌}
use Prim.Native.Nat.{ℕ, suc, ◌-◌}
use native.Mathlib.Omega.{arith}
use lib.Dec.{T, eqb}
use lib.ListN.{drop, get_or-replicate}
use borrow.Author.Tests.{eqb-false, not-true}
use Rattle.wire.specs.Answer.{refuse}
use Rattle.wire.specs.Refusal.{Rule, ◌when◌, pick, first}
use Rattle.wire.proofs.Answer.{told_number}
use Rattle.wire.proofs.Bools.{T_true, true_T, and_both}
use Rattle.turns.specs.Table.{IsSlot, fresh, unfit, address_of, some, onward, first_of, lowest_with, unfit_slot}
use Rattle.turns.specs.Calls.{answered_with, Turned, Changed, Added, add_rules, slot_rules, turn_rules, added, changed, turned, told_adding, told_changing, told_turning}
use Rattle.turns.specs.declared.Table.{Table}
use Rattle.turns_laws.specs.Course.{Exchange, ByCall, of_add, of_remove, of_mark, of_clear, of_turn, Course, EachCall, ByNew, of_new, Made}
use Rattle.turns_laws.specs.Held.{Holds, Stays, AddedAt}
use Rattle.turns_laws.proofs.Fitness.{is_fit, fit_is}
use Rattle.turns_laws.proofs.Held.{Whole, stays_whole, origin, holds_added}

fresh_whole : Whole fresh
unfolding unfit some unfit_slot lowest_with onward first_of pick
fresh_whole = record { fit = is_fit fresh refl; addresses = refl }

new_is : (t : Table) → ByNew t → t ≡ fresh
new_is _ (of_new κs a r e met) = met

new_whole : (t : Table) → ByNew t → Whole t
new_whole t n = subst Whole (sym (new_is t n)) fresh_whole

course_whole : (xs : List Exchange) (t u : Table) → Course t xs u → Whole t → Whole u
unfolding Course
course_whole [] t u c w = subst Whole (sym c) w
course_whole (x ∷ xs) t u c w = course_whole xs c.0 u c.2 (stays_whole t x c.0 c.1 w)

-- ---- 20 is told of an unfit table alone

-- no rule has the number n: for a list that is written out, it computes
abbrev without : ℕ → List Rule → Bool
without n [] = true
without n ((m when b) ∷ rs) = not (eqb m n) && without n rs

not_first : (rs : List Rule) (n : ℕ) → T (without (suc n) rs) → first rs ≡ suc n → ⊥
unfolding pick
not_first [] n h e = absurd (omega arith)
not_first ((m when true) ∷ rs) n h e = eqb-false m (suc n) (not-true _ (and_both _ (without (suc n) rs) (T_true _ h)).0) e
not_first ((m when false) ∷ rs) n h e = not_first rs n (true_T _ (and_both (not (eqb m (suc n))) _ (T_true _ h)).1) e

later : (t : Table) (rs : List Rule) (number : ℕ) → unfit t ≡ false → T (without 20 rs) → first (20 when unfit t ∷ rs) ≡ number → number ≡ 20 → ⊥
unfolding pick
later t rs number f h e z = not_first rs 19 h (sym (ap (λ (b : Bool). pick b 20 (first rs)) f) ∙ e ∙ z)

change_not_20 : (t : Table) (k : ℕ) (t' : Table) (r : Changed) → r ≡ changed t k t' → unfit t ≡ false → (told_changing r.answer).number ≡ 20 → ⊥
unfolding changed
change_not_20 t k t' r met f z =
    later t (drop 1 (slot_rules t k)) _ f tt
    (told_number (λ (n : ℕ). answered_with (refuse n) t) _ (λ (x : Changed). (told_changing x.answer).number) (λ n. refl) (slot_rules t k) tt refl)
    (ap (λ (x : Changed). (told_changing x.answer).number) (sym met) ∙ z)

not_20 : (t : Table) (x : Exchange) (v : Table) → ByCall t x v → unfit t ≡ false → x.told.number ≡ 20 → ⊥
unfolding added turned
not_20 _ _ _ (of_add κs c r e met) f z =
    later c.0 (drop 1 (add_rules c.0 c.1.0)) _ f tt
    (told_number (λ (n : ℕ). answered_with (refuse n) c.0) _ (λ (x : Added). (told_adding x.answer).number) (λ n. refl) (add_rules c.0 c.1.0) tt refl)
    (ap (λ (x : Added). (told_adding x.answer).number) (sym met) ∙ z)
not_20 _ _ _ (of_remove κs c r e met) f z = change_not_20 c.0 c.1.0 _ r met f z
not_20 _ _ _ (of_mark κs c r e met) f z = change_not_20 c.0 c.1.0 _ r met f z
not_20 _ _ _ (of_clear κs c r e met) f z = change_not_20 c.0 c.1.0 _ r met f z
not_20 _ _ _ (of_turn κs c r e met) f z =
    later c.0 (drop 1 (turn_rules c.0)) _ f tt
    (told_number (λ (n : ℕ). answered_with (refuse n) c.0) _ (λ (x : Turned). (told_turning x.answer).number) (λ n. refl) (turn_rules c.0) tt refl)
    (ap (λ (x : Turned). (told_turning x.answer).number) (sym met) ∙ z)

module _ (xs : List Exchange) (u : Table) (m : Made xs u) where
  -- 20 does not hold of it
  pub made_fit : unfit u ≡ false
  made_fit = fit_is u (course_whole xs m.0 u m.2 (new_whole m.0 m.1)).fit

  -- and no call of it is answered so
  pub never_20 : (x : Exchange) (v : Table) → ByCall u x v → x.told.number ≡ 20 → ⊥
  never_20 x v c = not_20 u x v c made_fit

  -- slot k has address a exactly if a was added, with the answer k, and slot k was not removed since
  pub made_of_added : (k a : ℕ) → IsSlot k → (Holds u k a → AddedAt k a xs) × (AddedAt k a xs → Holds u k a)
  made_of_added k a s = (
    (λ (h : Holds u k a).
        ⊎_elim (λ (o : Holds m.0 k a × EachCall (Stays k) xs). absurd (o.0.1 (sym o.0.0 ∙ empty))) (λ (o : AddedAt k a xs). o)
        (origin k s a xs m.0 u m.2 (new_whole m.0 m.1) h)),
    (λ (o : AddedAt k a xs). holds_added k s a o.before xs o.since m.0 u m.2 (new_whole m.0 m.1) o.added o.kept),
  )
    where
      empty : address_of m.0 k ≡ 0
      empty = ap (λ (t : Table). address_of t k) (new_is m.0 m.1) ∙ get_or-replicate 32 (k - 1) 0 0 (omega (arith, s.0, s.1))

  -- and no other slot has it
  pub made_once : (j k : ℕ) → IsSlot j → IsSlot k → (address_of u k ≡ 0 → ⊥) → address_of u j ≡ address_of u k → j ≡ k
  made_once = (is_fit u made_fit).once
