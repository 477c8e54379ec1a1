-- `sm160_datagram::put_datagram` meets its contract.
use Rattle.sm160_datagram.proofs.Stores.{stored_covered, stored_datagram}
use Rattle.sm160_datagram.proofs.put_datagram.Goals as goal

pub returns : goal.returns
returns c =
    let a = c.args in
    cc (stored_covered a.kind a.options.now a.content.now a.out.now, stored_datagram a.kind a.options.now a.content.now a.out.now c.requires.1)
