-- `sm160_datagram::Joined::crc_due` meets its contract.
use Rattle.sm160_datagram.proofs.Stretches.{crc_in_stretches}
use Rattle.sm160_datagram.proofs.Joined.crc_due.Goals as goal

pub returns : goal.returns
returns c =
    let s = c.self.inside in
    cc (crc_in_stretches s.held.now s.part.now c.minus-covered.result (cc))
