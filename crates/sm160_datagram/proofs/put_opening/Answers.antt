-- `sm160_datagram::put_opening` meets its contract.
use Rattle.sm160_datagram.proofs.Stores.{stored_opening}
use Rattle.sm160_datagram.proofs.put_opening.Goals as goal

pub returns : goal.returns
returns c =
    let a = c.args in
    cc (stored_opening a.kind a.options a.out.now)
