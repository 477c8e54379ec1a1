-- `pulsar_frame::write::put_frame` meets its contract.
use native.Mathlib.Omega.{arith}
use Rattle.pulsar_frame.proofs.Stores.{covered, stored_frame}
use Rattle.pulsar_frame.proofs.write.put_frame.Goals as goal

pub returns : goal.returns
returns c =
    let a = c.args in
    cc (covered a.names.address a.names.function a.names.id a.payload.now a.out.now (omega arith), stored_frame a.names.address a.names.function a.names.id a.payload.now a.out.now)
