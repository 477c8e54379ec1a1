-- `checksum::checksum_from` meets its contract.
use mathlib.Core.Path.{refl}
use Prim.Native.Nat.{◌<◌}
use Rattle.wire.proofs.Each.{each_get_d}
use Rattle.checksum.specs.Crc.{crc_bits}
use Rattle.checksum.specs.Table.{fours}
use Rattle.checksum.proofs.Laws.{crc_from_lt}
use Rattle.checksum.proofs.checksum_from.Goals as goal

-- the table holds what it must: computed, entry by entry
pub invariant_of-table : goal.invariant_of-table
unfolding fours crc_bits
invariant_of-table c = record { holds = refl }

pub overflow_cast-result : goal.overflow_cast-result
overflow_cast-result c =
    let small = crc_from_lt c.args.start c.args.bytes.now c.ranges.start.fits (each_get_d (λ b. b < 256) _ (λ k. (c.type_inv.bytes k).fits)) in
    record { fits = rw c.remainder_after.ensures small }
