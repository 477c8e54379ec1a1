-- `sm160_datagram::Joined::bad_lengths` meets its contract.
use Prim.Native.Nat.{◌-◌}
use lib.ListN.{length}
use Rattle.sm160_datagram.proofs.Stretches.{four_taken, eight_taken}
use Rattle.sm160_datagram.proofs.Joined.bad_lengths.Goals as goal

pub returns : goal.returns
returns c =
    let d = c.args.self.now in
    cc (four_taken d 2, eight_taken d (length d - 12))
