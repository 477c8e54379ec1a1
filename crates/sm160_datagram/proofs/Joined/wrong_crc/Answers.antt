-- `sm160_datagram::Joined::wrong_crc` meets its contract.
use Prim.Native.Nat.{◌-◌}
use lib.ListN.{length}
use Rattle.sm160_datagram.proofs.Stretches.{four_taken}
use Rattle.sm160_datagram.proofs.Joined.wrong_crc.Goals as goal

pub returns : goal.returns
returns c =
    let d = c.args.self.now in
    cc (four_taken d (length d - 4))
