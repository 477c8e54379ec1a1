-- `adi_request::judge_group` meets its contract.
use mathlib.Core.Path.{refl, ap, ◌∙◌}
use mathlib.Core.Bool.{not}
use borrow.Author.Tests.{eq-eqb, ne_eqb}
use Rattle.wire.specs.Answer.{judged}
use Rattle.wire.specs.Numbered.{refusal}
use Rattle.wire.specs.Refusal.{first}
use Rattle.wire.proofs.Answer.{refuses, passes}
use Rattle.adi_request.specs.Writing.{asked_rules}
use Rattle.adi_request.specs.declared.Asked.{Asked}
use Rattle.adi_request.proofs.judge_group.Goals as goal

pub returns-then-group-ne6 : goal.returns-then-group-ne6
unfolding refusal
returns-then-group-ne6 c = refuses _ _ _ _ _ _ refl (ap not (ne_eqb _ _ c.if-group-ne6.true)) refl

pub returns : goal.returns
returns c =
    passes _ _ _ _ _ _ refl (ap not (eq-eqb _ _ c.if-group-ne6.false))
    (c.judge.ensures ∙ ap (λ (a : Asked). judged tt (first (asked_rules a))) c.asked_of.ensures)
