-- No second answer would do, for each public function.
-- Assumes nothing.
use mathlib.Core.Path.{sym, ◌∙◌}
use Rattle.wire.specs.Unique.{Unique}
use Rattle.checksum.proofs.checksum_from.Reads as checksum-from
use Rattle.checksum.proofs.checksum.Reads as checksum
use Rattle.checksum.proofs.sum_byte.Reads as sum-byte
use Rattle.checksum.proofs.sum_from.Reads as sum-from
use Rattle.checksum.proofs.lrc.Reads as lrc
use Rattle.checksum.proofs.crc32_from.Reads as crc32-from

pub checksum_from_unique : Unique checksum-from.Post (λ κs r s. r)
checksum_from_unique κs a r r' s s' e e' = e ∙ sym e'

pub checksum_unique : Unique checksum.Post (λ κs r s. r)
checksum_unique κs a r r' s s' e e' = e ∙ sym e'

pub sum_byte_unique : Unique sum-byte.Post (λ κs r s. r)
sum_byte_unique κs a r r' s s' e e' = e ∙ sym e'

pub sum_from_unique : Unique sum-from.Post (λ κs r s. r)
sum_from_unique κs a r r' s s' e e' = e ∙ sym e'

pub lrc_unique : Unique lrc.Post (λ κs r s. r)
lrc_unique κs a r r' s s' e e' = e ∙ sym e'

pub crc32_from_unique : Unique crc32-from.Post (λ κs r s. r)
crc32_from_unique κs a r r' s s' e e' = e ∙ sym e'
