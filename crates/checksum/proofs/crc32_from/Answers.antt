-- `checksum::crc32_from` meets its contract.
use mathlib.Core.Path.{refl, ap}
use Rattle.checksum.specs.Crc.{crc_bits}
use Rattle.checksum.specs.Crc32.{turned, crc32_from}
use Rattle.checksum.specs.Table.{fours}
use Rattle.checksum.proofs.crc32_from.Goals as goal

-- the table holds what it must: computed, entry by entry
pub invariant_of-table : goal.invariant_of-table
unfolding fours crc_bits
invariant_of-table c = record { holds = refl }

pub returns : goal.returns
unfolding crc32_from
returns c = ap turned c.remainder_after.ensures
