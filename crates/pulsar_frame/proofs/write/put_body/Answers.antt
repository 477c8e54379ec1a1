-- `pulsar_frame::write::put_body` meets its contract.
use Rattle.pulsar_frame.proofs.Stores.{stored_body}
use Rattle.pulsar_frame.proofs.write.put_body.Goals as goal

pub returns : goal.returns
returns c =
    let a = c.args in
    cc (stored_body a.names.address a.names.function a.names.id a.payload.now a.out.now)
