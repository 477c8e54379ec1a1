-- What a `?` does, where the callee judges by itself: it hands on the callee's refusal, and otherwise goes on with its own answer.
-- Assumes nothing.
use mathlib.Core.Path.{◌≡◌, refl, sym, ap, ◌∙◌}
use Prim.Native.Nat.{ℕ, zero, suc}
use Rattle.std.specs.Prelude.{Result, Ok, Err}
use Rattle.wire.specs.Answer.{judged}
use Rattle.wire.specs.Numbered.{refusal}
use Rattle.wire.specs.declared.refusals.Refusal.{Refusal}

-- r is what the callee answered that judges n
module _ {A : Type 0} (x : A) where
  pub goes_back : {B : Type 0} (y : B) (r : Result B Refusal) (n : ℕ) (e : Refusal) → r ≡ judged y n → r ≡ Err e → Err e ≡ judged x n
  goes_back {B = B} y r zero e j is = absurd (let z : ◌≡◌ {A = Result B Refusal} (Ok y) (Err e) = sym j ∙ is in cc)
  goes_back {B = B} y r (suc n) e j is = let z : ◌≡◌ {A = Result B Refusal} (Err (refusal (suc n))) (Err e) = sym j ∙ is in cc

  pub goes_on : {B : Type 0} (y z : B) (r : Result B Refusal) (n : ℕ) (a : A) → r ≡ judged y n → r ≡ Ok z → a ≡ x → Ok a ≡ judged x n
  goes_on y z r n a j is ea = ap Ok ea ∙ ap (judged x) (sym (none_of y z r n j is))
    where
      none_of : {B : Type 0} (y z : B) (r : Result B Refusal) (n : ℕ) → r ≡ judged y n → r ≡ Ok z → n ≡ 0
      none_of {B = B} y z r zero j is = refl
      none_of {B = B} y z r (suc n) j is = absurd (let z : ◌≡◌ {A = Result B Refusal} (Err (refusal (suc n))) (Ok z) = sym j ∙ is in cc)
