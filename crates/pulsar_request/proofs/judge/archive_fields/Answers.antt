-- `pulsar_request::judge::archive_fields` meets its contract.
use mathlib.Core.List.{◌++◌}
use borrow.Author.Rules.{rules}
use Rattle.pulsar_body.specs.Fields.{one_faults, date_faults}
use Rattle.wire.proofs.Answer.{handed_on}
use Rattle.pulsar_body.proofs.Laws.{stretch_refused, stretch_passed}
use Rattle.pulsar_request.specs.Reading.{type_rules}
use Rattle.pulsar_request.proofs.judge.archive_fields.Goals as goal

pub returns-in_err-one_fault : goal.returns-in_err-one_fault
returns-in_err-one_fault c =
    let a = c.args in
    handed_on _ _ _ _ _ c.from_residual.ensures (stretch_refused (tt {0}) (one_faults a.mask) (type_rules a.archive_type ++ (date_faults a.from ++ date_faults a.to)) tt _ c.in_err-one_fault.ensures)

pub returns-in_err-type_fault : goal.returns-in_err-type_fault
returns-in_err-type_fault c =
    let a = c.args in
    handed_on _ _ _ _ _ c.from_residual-in_err-type_fault.ensures (
    stretch_passed (tt {0}) (one_faults a.mask) (type_rules a.archive_type ++ (date_faults a.from ++ date_faults a.to)) tt tt _ tt c.in_ok-one_fault.ensures
    (stretch_refused (tt {0}) (type_rules a.archive_type) (date_faults a.from ++ date_faults a.to) tt _ c.in_err-type_fault.ensures))

pub returns-in_err-date_fault : goal.returns-in_err-date_fault
returns-in_err-date_fault c =
    let a = c.args in
    handed_on _ _ _ _ _ c.from_residual-in_err-date_fault.ensures (
    stretch_passed (tt {0}) (one_faults a.mask) (type_rules a.archive_type ++ (date_faults a.from ++ date_faults a.to)) tt tt _ tt c.in_ok-one_fault.ensures
    (stretch_passed (tt {0}) (type_rules a.archive_type) (date_faults a.from ++ date_faults a.to) (tt {0}) (tt {0}) _ tt (search rules)
    (stretch_refused (tt {0}) (date_faults a.from) (date_faults a.to) tt _ c.in_err-date_fault.ensures)))

pub returns : goal.returns
returns c =
    let a = c.args in
    stretch_passed (tt {0}) (one_faults a.mask) (type_rules a.archive_type ++ (date_faults a.from ++ date_faults a.to)) tt tt _ tt c.in_ok-one_fault.ensures
    (stretch_passed (tt {0}) (type_rules a.archive_type) (date_faults a.from ++ date_faults a.to) tt tt _ tt c.in_ok-type_fault.ensures
    (stretch_passed (tt {0}) (date_faults a.from) (date_faults a.to) tt tt _ tt c.in_ok-date_fault.ensures c.date_fault-2.ensures))
