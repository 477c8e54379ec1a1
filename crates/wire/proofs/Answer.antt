-- What a function answers that judges its input by rules: at a refusal, at none, and demand 1 of the number that is told.
-- Assumes nothing.
use mathlib.Core.Path.{◌≡◌, refl, sym, ap, ◌∙◌, subst}
use mathlib.Core.Bool.{Bool, true, false}
use mathlib.Core.List.{List}
use Prim.Native.Nat.{ℕ, zero, suc}
use native.Mathlib.Omega.{arith}
use lib.Dec.{T}
use Rattle.std.specs.Prelude.{Result, Ok, Err, IsErr, IsErrAnd}
use Rattle.std.proofs.lemmas.Result.{err_from_is_err_and}
use Rattle.wire.specs.Answer.{answered, judged, refuse as refused_by, told_judged}
use Rattle.wire.specs.Numbered.{number_of, refusal}
use Rattle.wire.specs.Refusal.{Rule, pick, first, numbered, named, FirstInOrder}
use Rattle.wire.specs.declared.refusals.Refusal.{Refusal}
use Rattle.wire.proofs.Rules.{in_order, first_named, named_numbered, hit, skip}

-- ---- for the code, which asks one condition after another: r is what a function answered that tests b. `search (refuses, passes) depth 12`,
-- where `refusal` unfolds, proves from these what a `return` owes
module _ {A : Type 0} (x : A) where
  pub refuses : (r b : Bool) (n m : ℕ) (a : Result A Refusal) → r ≡ b → r ≡ true → a ≡ judged x n → a ≡ judged x (pick b n m)
  refuses r b n m a eb t h = h ∙ ap (judged x) (hit r b n m eb t)

  pub passes : (r b : Bool) (n m : ℕ) (a : Result A Refusal) → r ≡ b → r ≡ false → a ≡ judged x m → a ≡ judged x (pick b n m)
  passes r b n m a eb f h = h ∙ ap (judged x) (skip r b n m m eb f refl)

  -- what a `?` hands on: the callee judges n by itself, and refuses with e
  pub handed_on : {B : Type 0} (y : B) (n : ℕ) (r : Result A Refusal) (e : Refusal) → IsErr r × IsErrAnd r (λ d. d ≡ e) → Err e ≡ judged y n → r ≡ judged x n
  handed_on y zero r e exit j = absurd (cc)
  handed_on y (suc n) r e exit j = let p = err_from_is_err_and r exit.1 in p.1 ∙ ap Err (p.2 ∙ (cc))

  -- an answer that gives something says that no rule holds, and gives what is accepted
  pub accepted_as : (n : ℕ) (a : A) → judged x n ≡ Ok a → (n ≡ 0) × (x ≡ a)
  accepted_as zero a e = (refl, (cc))
  accepted_as (suc n) a e = absurd (cc)

  -- and what a callee answered says that none of its rules holds
  pub none_judged : (n : ℕ) (a : A) → Ok a ≡ judged x n → n ≡ 0
  none_judged n a e = (accepted_as n a (sym e)).0

  pub judged_none : (n : ℕ) → n ≡ 0 → judged x n ≡ Ok x
  judged_none n z = ap (judged x) z

-- ---- of any way to refuse and to accept
module _ {A : Type 0} (refuse : ℕ → A) (accept : A) where
  -- where no rule holds
  pub answered_none : (n : ℕ) → n ≡ 0 → answered refuse accept n ≡ accept
  answered_none n z = ap (answered refuse accept) z

  -- `told` gives the number of an answer, 0 for none
  module _ (told : A → ℕ) (says : (n : ℕ) → told (refuse n) ≡ n) where
    -- an answer that tells no refusal is what is accepted, and no rule holds
    pub answered_accepted : (n : ℕ) (a : A) → answered refuse accept n ≡ a → told a ≡ 0 → (n ≡ 0) × (accept ≡ a)
    answered_accepted zero a e z = (refl, e)
    answered_accepted (suc n) a e z = absurd (let k : suc n ≡ 0 = sym (says (suc n)) ∙ ap told e ∙ z in omega arith)

    -- the number that is told is the first rule's
    pub answered_told : told accept ≡ 0 → (n : ℕ) → n ≡ told (answered refuse accept n)
    answered_told z zero = sym z
    answered_told z (suc n) = sym (says (suc n))

-- ---- demand 1
module _ {A : Type 0} (refuse : ℕ → A) (accept : A) (told : A → ℕ) where
  tells : (rules : List Rule) → ((n : ℕ) → first rules ≡ suc n → told (refuse (suc n)) ≡ suc n) → told accept ≡ 0 → first rules ≡ told (answered refuse accept (first rules))
  tells rules says z = of (first rules) refl
    where
      of : (n : ℕ) → first rules ≡ n → n ≡ told (answered refuse accept n)
      of zero e = sym z
      of (suc n) e = sym (says n e)

  -- where the number of the first rule is told of its refusal, and 0 of what is accepted, the answer tells the first in its order
  pub answer_first : (rules : List Rule) → T (numbered rules) → ((n : ℕ) → first rules ≡ suc n → told (refuse (suc n)) ≡ suc n) → told accept ≡ 0
      → FirstInOrder rules (told (answered refuse accept (first rules)))
  answer_first rules t says z = in_order rules _ t (tells rules says z)

  -- so of answers that refuse with a `Refusal`, where each rule has the number of one
  module _ (says : (n : ℕ) → told (refuse n) ≡ number_of (refusal n)) (rules : List Rule) (t : T (named rules)) where
    its_number : (n : ℕ) → first rules ≡ suc n → told (refuse (suc n)) ≡ suc n
    its_number n e =
        says (suc n) ∙ ap (λ (k : ℕ). number_of (refusal k)) (sym e)
        ∙ first_named rules t (λ (y : first rules ≡ 0). absurd (let k : suc n ≡ 0 = sym e ∙ y in omega arith)) ∙ e

    pub told_number : told accept ≡ 0 → first rules ≡ told (answered refuse accept (first rules))
    told_number z = tells rules its_number z

    pub named_first : told accept ≡ 0 → FirstInOrder rules (told (answered refuse accept (first rules)))
    named_first z = answer_first rules (named_numbered rules t) its_number z

-- so of what a judge answers that has nothing to say of what it accepts
pub judged_first : (rules : List Rule) (r : Result Unit Refusal) → T (named rules) → r ≡ judged tt (first rules) → FirstInOrder rules (told_judged r).number
judged_first rules r t e =
    subst (λ (x : Result Unit Refusal). FirstInOrder rules (told_judged x).number) (sym e)
    (named_first refused_by (Ok tt) (λ x. (told_judged x).number) (λ n. refl) rules t refl)
