-- What is judged by rules of which a callee has judged the first: a form's, of which every form has the same first ones.
-- Assumes nothing.
use mathlib.Core.Path.{◌≡◌, refl, sym, ap, ◌∙◌}
use mathlib.Core.List.{List, ◌++◌}
use Prim.Native.Nat.{ℕ, zero, suc}
use native.Mathlib.Omega.{arith}
use lib.Dec.{T}
use lib.ListN.{length}
use Rattle.std.specs.Prelude.{Result, Ok, Err, IsErr}
use Rattle.std.specs.Result.{IsErrAnd}
use Rattle.wire.specs.Answer.{judged}
use Rattle.wire.specs.Numbered.{number_of, refusal}
use Rattle.wire.specs.Refusal.{Rule, first, numbered, named}
use Rattle.wire.specs.Writes.{Written, Writes, told_written}
use Rattle.wire.specs.declared.refusals.Refusal.{Refusal}
use Rattle.wire.proofs.Answer.{handed_on, none_judged}
use Rattle.wire.proofs.Rules.{first_hits, first_skips, first_named, none_first}
use Rattle.wire.proofs.Writes.{writes_as}

-- a writer that hands on what a callee refuses with, which judges n by itself
pub writes_handed : {B : Type 0} (y : B) (bs out : List ℕ) (n : ℕ) (r : Written) (e : Refusal) → IsErr r × IsErrAnd r (λ d. d ≡ e) → Err e ≡ judged y n
    → ((n ≡ 0 → ⊥) → number_of (refusal n) ≡ n) → Writes n bs out r out
writes_handed y bs out zero r e exit j tells = absurd (cc)
writes_handed y bs out (suc n) r e exit j tells =
    let answered = handed_on (length bs) y (suc n) r e exit j in
    record {
      answer = answered;
      output = refl;
      told = ap (λ (x : Written). (told_written x).number) answered ∙ tells (λ (z : suc n ≡ 0). absurd (omega arith));
    }

module _ {B : Type 0} (y : B) (rs ss : List Rule) where
  -- the callee refuses with e, and so does the caller
  module _ (e : Refusal) (j : Err e ≡ judged y (first rs)) where
    first_more : first rs ≡ first (rs ++ ss)
    first_more = sym (first_hits rs ss (λ z. absurd (let same : ◌≡◌ {A = Result B Refusal} (Err e) (Ok y) = j ∙ ap (judged y) z in cc)))

    pub handed_more : {A : Type 0} (x : A) (r : Result A Refusal) → IsErr r × IsErrAnd r (λ d. d ≡ e) → r ≡ judged x (first (rs ++ ss))
    handed_more x r exit = handed_on x y (first rs) r e exit j ∙ ap (judged x) first_more

    pub writes_more : T (named rs) → (bs out : List ℕ) (r : Written) → IsErr r × IsErrAnd r (λ d. d ≡ e) → Writes (first (rs ++ ss)) bs out r out
    writes_more t bs out r exit = writes_as bs out (first rs) (first (rs ++ ss)) r out first_more (writes_handed y bs out (first rs) r e exit j (first_named rs t))

  -- the callee lets it through, and the rest is judged
  module _ (t : T (numbered rs)) (a : B) (j : Ok a ≡ judged y (first rs)) where
    rest_left : first ss ≡ first (rs ++ ss)
    rest_left = sym (first_skips rs ss (none_first rs t (none_judged y (first rs) a j)))

    pub judged_rest : {A : Type 0} (x : A) (r : Result A Refusal) → r ≡ judged x (first ss) → r ≡ judged x (first (rs ++ ss))
    judged_rest x r h = h ∙ ap (judged x) rest_left

    pub writes_rest : (bs out : List ℕ) (r : Written) (out' : List ℕ) → Writes (first ss) bs out r out' → Writes (first (rs ++ ss)) bs out r out'
    writes_rest bs out r out' w = writes_as bs out (first ss) (first (rs ++ ss)) r out' rest_left w
