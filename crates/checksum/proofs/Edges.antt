-- The edges of the checksum hold, computed.
-- Assumes nothing.
use mathlib.Core.Path.{refl}
use Rattle.wire.specs.Told.{AllHold}
use Rattle.checksum.specs.Crc.{crc_bits, remainder}
use Rattle.checksum.specs.Edges.{checksum_edges}

pub checksum_edges_lem : AllHold checksum_edges
unfolding remainder crc_bits
checksum_edges_lem = (refl, (refl, (refl, tt)))
