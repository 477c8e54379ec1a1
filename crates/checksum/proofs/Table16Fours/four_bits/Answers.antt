-- `checksum::Table16Fours::four_bits` meets its contract.
use mathlib.Core.Path.{◌≡◌}
use native.Mathlib.Omega.{arith}
use Rattle.std.proofs.Common.{rules}
use Rattle.checksum.specs.Crc.{CRC16}
use Rattle.checksum.specs.Table.{fours}
use Rattle.checksum.proofs.Table.{four_at_once}
use Rattle.checksum.proofs.Table16Fours.four_bits.Goals as goal

pub returns : goal.returns
returns c =
    let holds : c.args.self.now.entries ≡ fours CRC16 = search rules in
    four_at_once CRC16 _ _ _ holds (omega arith)
