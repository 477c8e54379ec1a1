-- `adi_request::judge` meets its contract.
use mathlib.Core.Path.{sym, ap, ◌∙◌}
use Rattle.std.proofs.lemmas.Result.{err_from_is_err_and}
use Rattle.wire.specs.Answer.{judged}
use Rattle.adi_request.proofs.Judging.{given_passes, given_decides, given_pass}
use Rattle.wire.specs.Numbered.{refusal}
use Rattle.wire.proofs.Answer.{refuses, passes}
use Rattle.adi_request.proofs.judge.Goals as goal

pub returns-then-bad_number : goal.returns-then-bad_number
unfolding refusal
returns-then-bad_number c = search (refuses, passes) depth 12

pub returns-in_err-judge : goal.returns-in_err-judge
returns-in_err-judge c =
    let p = err_from_is_err_and c.from_residual.result c.from_residual.ensures.1 in
    rw (p.1, p.2)
    (passes _ _ _ _ _ _ c.bad_number.ensures c.if-bad_number.false
    (given_decides c.args.groups.now c.loop-group.group-index c.loop-group-test.true _ c.from.ensures _ c.in_err-judge.ensures ∙ ap (judged tt) c.loop-group.invariant))

pub loop-group-preserved : goal.loop-group-preserved
loop-group-preserved c =
    given_passes c.args.groups.now c.loop-group.group-index c.loop-group-test.true _ c.from.ensures c.in_ok-judge.ensures ∙ c.loop-group.invariant

pub returns : goal.returns
returns c =
    passes _ _ _ _ _ _ c.bad_number.ensures c.if-bad_number.false
    (ap (judged tt) (sym (given_pass c.args.groups.now c.loop-group.group-index c.loop-group-test.false) ∙ c.loop-group.invariant))
