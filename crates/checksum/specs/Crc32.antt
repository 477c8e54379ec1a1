-- The CRC-32 of the SM160 datagram.
-- Assumes nothing.
use Rattle.std.specs.Prelude.{ℕ, List}
use Rattle.std.specs.Int.Bits.{bit_xor}
use Rattle.checksum.specs.Crc.{remainder}

-- "Source document 001 decides the CRC-32's rule": that of IEEE 802.3, whose reflected polynomial is EDB88320
abbrev pub CRC32 : ℕ
CRC32 = 0xEDB88320

-- start and final change are FFFFFFFF: every bit is turned over, before the bytes and after them
abbrev pub turned : ℕ → ℕ
turned c = bit_xor c 0xFFFFFFFF

-- of bytes that go on from a message whose CRC-32 is c, which is 0 of no bytes
unfoldable pub crc32_from : ℕ → List ℕ → ℕ
crc32_from c bs = turned (remainder CRC32 (turned c) bs)

abbrev pub crc32 : List ℕ → ℕ
crc32 bs = crc32_from 0 bs
