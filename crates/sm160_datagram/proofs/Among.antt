-- Rules before others, which the code judges by themselves and asks by `?`.
-- Assumes nothing.
use mathlib.Core.Path.{◌≡◌, sym, ap, ◌∙◌}
use mathlib.Core.List.{List, ◌++◌}
use Prim.Native.Nat.{ℕ, zero, suc}
use native.Mathlib.Omega.{arith}
use lib.Dec.{T}
use Rattle.std.specs.Prelude.{Result, Ok, Err, IsErr, IsErrAnd}
use Rattle.wire.specs.Answer.{judged}
use Rattle.wire.specs.Refusal.{Rule, first, numbered}
use Rattle.wire.specs.declared.refusals.Refusal.{Refusal}
use Rattle.wire.proofs.Answer.{handed_on, none_judged}
use Rattle.wire.proofs.Rules.{first_hits, first_skips, none_first}

module _ {A B : Type 0} (x : A) (y : B) (rs ss : List Rule) where
  -- what the first rules refuse, all refuse: r is what a `?` hands on
  pub handed_among : (r : Result A Refusal) (e : Refusal) → IsErr r × IsErrAnd r (λ d. d ≡ e) → Err e ≡ judged y (first rs) → r ≡ judged x (first (rs ++ ss))
  handed_among r e exit j = handed_on x y (first rs) r e exit j ∙ ap (judged x) (sym (first_hits rs ss (some (first rs) j)))
    where
      some : (n : ℕ) → Err e ≡ judged y n → n ≡ 0 → ⊥
      some zero j z = absurd (cc)
      some (suc n) j z = omega arith

  -- and where they refuse nothing, the others decide
  pub on_among : T (numbered rs) → (z : B) (a : Result A Refusal) → Ok z ≡ judged y (first rs) → a ≡ judged x (first ss) → a ≡ judged x (first (rs ++ ss))
  on_among t z a j h = h ∙ ap (judged x) (sym (first_skips rs ss (none_first rs t (none_judged y (first rs) z j))))
