-- `sm160_frame::crc_due` meets its contract.
use mathlib.Core.Path.{sym}
use Rattle.sm160_frame.proofs.Stores.{crc_in_stretches}
use Rattle.sm160_frame.proofs.crc_due.Goals as goal

pub returns : goal.returns
returns c =
    rw (c.checksum_from.ensures, c.rest.ensures, c.checksum_from-to_flags.ensures, c.checksum_from-to_crc.ensures, c.front.ensures)
    (sym (crc_in_stretches c.args.bytes.now))
