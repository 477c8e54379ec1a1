-- `adi_request::Asked::judge` meets its contract.
use mathlib.Core.Path.{refl}
use borrow.Author.Tests.{eq-eqb, ne_eqb}
use Rattle.wire.specs.Numbered.{refusal}
use Rattle.wire.proofs.Answer.{refuses, passes}
use Rattle.adi_request.proofs.Asked.judge.Goals as goal

pub returns-then-self : goal.returns-then-self
unfolding refusal
returns-then-self c = refuses _ _ _ _ _ _ refl c.if-self.true refl

pub returns-then-self-eq0 : goal.returns-then-self-eq0
unfolding refusal
returns-then-self-eq0 c = passes _ _ _ _ _ _ refl c.if-self.false (refuses _ _ _ _ _ _ refl (eq-eqb _ _ c.if-self-eq0.true) refl)

pub returns : goal.returns
returns c = passes _ _ _ _ _ _ refl c.if-self.false (passes _ _ _ _ _ _ refl (ne_eqb _ _ c.if-self-eq0.false) refl)
