-- `pulsar_reply::judge::archive_faults` meets its contract.
use Rattle.pulsar_body.specs.Fields.{one_faults, date_faults}
use borrow.Author.Rules.{rules}
use Rattle.wire.proofs.Answer.{handed_on}
use Rattle.pulsar_body.proofs.Laws.{stretch_refused, stretch_passed}
use Rattle.pulsar_reply.proofs.judge.archive_faults.Goals as goal

pub returns-in_err-one_fault : goal.returns-in_err-one_fault
returns-in_err-one_fault c =
    let a = c.args in
    handed_on _ _ _ _ _ c.from_residual.ensures (stretch_refused (tt {0}) (one_faults a.a.mask) (date_faults a.a.first) tt _ c.in_err-one_fault.ensures)

pub returns : goal.returns
returns c =
    let a = c.args.a in
    stretch_passed (tt {0}) (one_faults a.mask) (date_faults a.first) tt tt _ tt c.in_ok-one_fault.ensures (search rules)
