-- `checksum::Table32Fours::four_bits` meets its contract.
use mathlib.Core.Path.{◌≡◌}
use native.Mathlib.Omega.{arith}
use Rattle.std.proofs.Common.{rules}
use Rattle.checksum.specs.Crc32.{CRC32}
use Rattle.checksum.specs.Table.{fours}
use Rattle.checksum.proofs.Table.{four_at_once}
use Rattle.checksum.proofs.Table32Fours.four_bits.Goals as goal

pub returns : goal.returns
returns c =
    let holds : c.args.self.now.entries ≡ fours CRC32 = search rules in
    four_at_once CRC32 _ _ _ holds (omega arith)
