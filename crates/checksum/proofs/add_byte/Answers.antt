-- `checksum::add_byte` meets its contract.
use mathlib.Core.Path.{ap, ◌∙◌}
use Rattle.checksum.specs.Crc.{crc_bits}
use Rattle.checksum.proofs.add_byte.Goals as goal

pub returns : goal.returns
unfolding crc_bits
returns g c = c.four_bits-2.ensures ∙ ap (crc_bits g.F.Fours.poly 4) c.four_bits.ensures
