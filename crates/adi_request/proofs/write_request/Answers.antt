-- `adi_request::write_request` meets its contract.
use Rattle.std.proofs.lemmas.Result.{err_from_is_err_and}
use Rattle.wire.proofs.Answer.{none_judged}
use Rattle.wire.proofs.Rules.{none_first}
use Rattle.adi.proofs.Room.{refused_judged, refused_16, stored}
use Rattle.adi_request.specs.Layout.{request_bytes}
use Rattle.adi_request.specs.Writing.{given, judge_rules}
use Rattle.adi_request.proofs.Judging.{judge_named, judge_numbered, given_few}
use Rattle.adi_request.proofs.Stores.{length_given}
use Rattle.adi_request.proofs.write_request.Goals as goal

pub returns-in_err-judge : goal.returns-in_err-judge
returns-in_err-judge c =
    let p = err_from_is_err_and c.from_residual.result c.from_residual.ensures.1 in
    rw (p.1, p.2) (refused_judged (judge_rules (given c.args.groups.now)) _ _ _ (judge_named (given c.args.groups.now)) c.in_err-judge.ensures)

pub returns-then-out-n : goal.returns-then-out-n
returns-then-out-n c =
    let gs = c.args.groups.now in
    refused_16 (judge_rules (given gs)) (request_bytes (given gs)) _ (judge_numbered (given gs)) c.in_ok-judge.ensures _ (length_given gs) c.if-out-n.true

pub put_request-requires-clause-few : goal.put_request-requires-clause-few
put_request-requires-clause-few c =
    let gs = c.args.groups.now in
    given_few gs (none_first (judge_rules (given gs)) (judge_numbered (given gs)) (none_judged tt _ tt c.in_ok-judge.ensures)).0

pub returns : goal.returns
returns c =
    let gs = c.args.groups.now in
    stored (judge_rules (given gs)) (request_bytes (given gs)) c.args.out.now (judge_numbered (given gs)) c.in_ok-judge.ensures _ (length_given gs) c.if-out-n.false _ c.put_request.ensures
