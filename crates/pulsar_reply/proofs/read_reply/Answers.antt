-- `pulsar_reply::read_reply` meets its contract.
use Rattle.std.proofs.lemmas.Result.{err_from_is_err_and}
use Rattle.pulsar_reply.proofs.Cases.{read_refused, read_fields_refused, read_done}
use Rattle.pulsar_reply.proofs.read_reply.Goals as goal

pub returns-in_err-received : goal.returns-in_err-received
returns-in_err-received c =
    let a = c.args in
    let p = err_from_is_err_and c.from_residual.result c.from_residual.ensures.1 in
    rw (p.1, p.2) (read_refused a.function a.width a.mask a.body.now _ c.function_from.ensures _ c.in_err-received.ensures)

pub returns-in_err-body_fields : goal.returns-in_err-body_fields
returns-in_err-body_fields c =
    let a = c.args in
    let p = err_from_is_err_and c.from_residual-in_err-body_fields.result c.from_residual-in_err-body_fields.ensures.1 in
    rw (p.1, p.2) (read_fields_refused a.function a.width a.mask a.body.now _ c.function_from.ensures _ _ c.in_ok-received.ensures c.in_err-body_fields.ensures)

pub returns : goal.returns
returns c =
    let a = c.args in
    read_done a.function a.width a.mask a.body.now _ c.function_from.ensures _ _ c.in_ok-received.ensures c.in_ok-body_fields.ensures c.reply_of.ensures
