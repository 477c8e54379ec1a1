-- `adi::ContentsTryFromU16::try_from` meets its contract.
use mathlib.Core.Path.{refl, sym, ap}
use Prim.Native.Nat.{ℕ, ◌<◌}
use native.Mathlib.Omega.{arith}
use borrow.Author.Tests.{lt-ltb}
use Rattle.wire.specs.Answer.{judged}
use Rattle.wire.specs.Numbered.{refusal}
use Rattle.wire.specs.Refusal.{pick, first}
use Rattle.wire.proofs.Answer.{refuses}
use Rattle.adi.specs.Descriptor.{contents_from, contents_rules}
use Rattle.adi.proofs.ContentsTryFromU16.try_from.Goals as goal

pub returns-in-0 : goal.returns-in-0
unfolding pick
returns-in-0 c = sym (ap (λ (n : ℕ). judged (contents_from n) (first (contents_rules n))) c.in-0.is)

pub returns-in-1 : goal.returns-in-1
unfolding pick
returns-in-1 c = sym (ap (λ (n : ℕ). judged (contents_from n) (first (contents_rules n))) c.in-1.is)

pub returns-in-2 : goal.returns-in-2
unfolding pick
returns-in-2 c = sym (ap (λ (n : ℕ). judged (contents_from n) (first (contents_rules n))) c.in-2.is)

pub returns-in-3 : goal.returns-in-3
unfolding pick
returns-in-3 c = sym (ap (λ (n : ℕ). judged (contents_from n) (first (contents_rules n))) c.in-3.is)

pub returns-in_default : goal.returns-in_default
unfolding refusal
returns-in_default c =
    let above : 3 < c.args.number = omega arith in
    refuses _ _ _ _ _ _ refl (lt-ltb 3 c.args.number above) refl
