-- `pulsar_request::read_request` meets its contract.
use Rattle.std.proofs.lemmas.Result.{err_from_is_err_and}
use Rattle.pulsar_request.proofs.Cases.{read_refused, read_fields_refused, read_done}
use Rattle.pulsar_request.proofs.read_request.Goals as goal

pub returns-in_err-asked : goal.returns-in_err-asked
returns-in_err-asked c =
    let a = c.args in
    let p = err_from_is_err_and c.from_residual.result c.from_residual.ensures.1 in
    rw (p.1, p.2) (read_refused a.function a.width _ a.body.now _ c.function_from.ensures c.le32_at-mask.ensures _ c.in_err-asked.ensures)

pub returns-in_err-body_fields : goal.returns-in_err-body_fields
returns-in_err-body_fields c =
    let a = c.args in
    let p = err_from_is_err_and c.from_residual-in_err-body_fields.result c.from_residual-in_err-body_fields.ensures.1 in
    rw (p.1, p.2) (read_fields_refused a.function a.width _ a.body.now _ c.function_from.ensures c.le32_at-mask.ensures _ _ c.in_ok-asked.ensures c.in_err-body_fields.ensures)

pub returns : goal.returns
returns c =
    let a = c.args in
    read_done a.function a.width _ a.body.now _ c.function_from.ensures c.le32_at-mask.ensures _ _ c.in_ok-asked.ensures c.in_ok-body_fields.ensures c.request_of.ensures
