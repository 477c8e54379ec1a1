-- The law of rules that are asked of each of a list in turn: the answer is the first fault of the first that has one.
-- Assumes nothing.
use mathlib.Core.Path.{◌≡◌, refl, sym, ap, ◌∙◌}
use mathlib.Core.List.{List, [], ◌∷◌, ◌++◌}
use Prim.Native.Nat.{ℕ, zero, suc}
use native.Mathlib.Omega.{arith}
use lib.Dec.{T}
use Rattle.wire.specs.Refusal.{Rule, first, numbered, named}
use Rattle.wire.specs.Answer.{answered}
use Rattle.wire.specs.InTurn.{in_turn, first_faulty, Faultless, FirstFault, FirstInTurn}
use Rattle.wire.proofs.Rules.{first_skips, first_hits, first_none, none_first, first_is, is_first, numbered_append, named_append, passed, found}

pub in_turn_named : {A : Type 0} (rules : A → List Rule) → ((x : A) → T (named (rules x))) → (xs : List A) → T (named (in_turn rules xs))
unfolding in_turn
in_turn_named rules good [] = tt
in_turn_named rules good (x ∷ xs) = named_append (rules x) (in_turn rules xs) (good x) (in_turn_named rules good xs)

module _ {A : Type 0} (rules : A → List Rule) (good : (x : A) → T (numbered (rules x))) where
  pub in_turn_numbered : (xs : List A) → T (numbered (in_turn rules xs))
  unfolding in_turn
  in_turn_numbered [] = tt
  in_turn_numbered (x ∷ xs) = numbered_append (rules x) (in_turn rules xs) (good x) (in_turn_numbered xs)

  -- ---- for the code, which judges one after another: r is its answer for x, the first of them
  pub turn_decides : (x : A) (xs : List A) (r : ℕ) → r ≡ first (rules x) → (r ≡ 0 → ⊥) → r ≡ first (in_turn rules (x ∷ xs))
  unfolding in_turn
  turn_decides x xs r e some = found (rules x) (in_turn rules xs) r e some

  pub turn_passes : (x : A) (xs : List A) (r : ℕ) → r ≡ first (rules x) → r ≡ 0 → first (in_turn rules (x ∷ xs)) ≡ first (in_turn rules xs)
  unfolding in_turn
  turn_passes x xs r e z = sym (passed (rules x) (in_turn rules xs) (good x) r (first (in_turn rules xs)) e z refl)

  -- ---- the law
  none_faulty : (xs : List A) → first (in_turn rules xs) ≡ 0 → Faultless rules xs
  unfolding in_turn
  none_faulty [] e = tt
  none_faulty (x ∷ xs) e = go (first (rules x)) refl (none_faulty xs)
    where
      go : (m : ℕ) → m ≡ first (rules x) → (first (in_turn rules xs) ≡ 0 → Faultless rules xs) → Faultless rules (x ∷ xs)
      go zero z next = (none_first (rules x) (good x) (sym z), next (sym (turn_passes x xs zero z refl) ∙ e))
      go (suc m) z next = absurd (let y : suc m ≡ 0 = turn_decides x xs (suc m) z (λ w. omega arith) ∙ e in omega arith)

  faultless_none : (xs : List A) → Faultless rules xs → first (in_turn rules xs) ≡ 0
  unfolding in_turn
  faultless_none [] h = refl
  faultless_none (x ∷ xs) h = first_skips (rules x) (in_turn rules xs) h.0 ∙ faultless_none xs h.1

  is_fault : (xs : List A) (n : ℕ) → first (in_turn rules xs) ≡ suc n → FirstFault rules xs (suc n)
  unfolding in_turn
  is_fault [] n e = absurd (omega arith)
  is_fault (x ∷ xs) n e = go (first (rules x)) refl (is_fault xs n)
    where
      go : (m : ℕ) → m ≡ first (rules x) → (first (in_turn rules xs) ≡ suc n → FirstFault rules xs (suc n)) → FirstFault rules (x ∷ xs) (suc n)
      go zero z next =
          let later = next (sym (turn_passes x xs zero z refl) ∙ e) in
          (x ∷ later.0, later.1, later.2, ap (λ (l : List A). x ∷ l) later.3, (none_first (rules x) (good x) (sym z), later.4), later.5)
      go (suc m) z next =
          ([], x, xs, refl, tt, is_first (rules x) n (sym z ∙ turn_decides x xs (suc m) z (λ w. omega arith) ∙ e))

  fault_is : (xs : List A) (n : ℕ) → FirstFault rules xs (suc n) → first (in_turn rules xs) ≡ suc n
  unfolding in_turn
  fault_is xs n h = ap (λ (l : List A). first (in_turn rules l)) h.3 ∙ go h.0 h.4
    where
      here : first (rules h.1) ≡ suc n
      here = first_is (rules h.1) (suc n) h.5

      go : (before : List A) → Faultless rules before → first (in_turn rules (before ++ (h.1 ∷ h.2))) ≡ suc n
      go [] f = first_hits (rules h.1) (in_turn rules h.2) (λ z. absurd (let y : suc n ≡ 0 = sym here ∙ z in omega arith)) ∙ here
      go (x ∷ before) f = first_skips (rules x) (in_turn rules (before ++ (h.1 ∷ h.2))) f.0 ∙ go before f.1

  pub in_turn_law : (xs : List A) → FirstInTurn rules xs (first (in_turn rules xs))
  in_turn_law xs = ((λ n. (is_fault xs n, fault_is xs n)), none_faulty xs, faultless_none xs)

  -- and the first faulty one is that one
  pub first_faulty_is : (none : A) (xs : List A) (n : ℕ) (h : FirstFault rules xs (suc n)) → first_faulty rules none xs ≡ h.1
  unfolding first_faulty
  first_faulty_is none xs n h = ap (first_faulty rules none) h.3 ∙ go h.0 h.4
    where
      go : (before : List A) → Faultless rules before → first_faulty rules none (before ++ (h.1 ∷ h.2)) ≡ h.1
      go [] f = ap (answered (λ n. h.1) (first_faulty rules none h.2)) (first_is (rules h.1) (suc n) h.5)
      go (x ∷ before) f = ap (answered (λ n. x) (first_faulty rules none (before ++ (h.1 ∷ h.2)))) (first_none (rules x) f.0) ∙ go before f.1
