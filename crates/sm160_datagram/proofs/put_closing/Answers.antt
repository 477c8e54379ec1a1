-- `sm160_datagram::put_closing` meets its contract.
use lib.ListN.{take}
use Rattle.sm160_datagram.proofs.Stores.{made_closing}
use Rattle.sm160_datagram.proofs.put_closing.Goals as goal

pub returns : goal.returns
returns c =
    let a = c.args in
    cc (made_closing a.content (take a.covered a.out.now))
