-- A checksum by a reflected polynomial, bit by bit, from any start value; and the CRC-16 of Pulsar-M, Modbus and the SM160 frame.
-- Assumes nothing.
use Rattle.std.specs.Prelude.{ℕ, zero, suc, ◌*◌, ◌/◌, ◌%◌, List, [], ◌∷◌}
use Rattle.std.specs.Int.Bits.{bit_xor}

-- "CRC-16 with reflected polynomial A001"
abbrev pub CRC16 : ℕ
CRC16 = 0xA001

-- with a reflected polynomial, one bit of the remainder c, which is halved, and where the bit that falls out is 1 the polynomial is added
abbrev pub crc_bit : ℕ → ℕ → ℕ
crc_bit poly c = bit_xor (c / 2) (c % 2 * poly)

-- n bits
unfoldable pub crc_bits : ℕ → ℕ → ℕ → ℕ
crc_bits poly zero c = c
crc_bits poly (suc n) c = crc_bits poly n (crc_bit poly c)

-- one byte more, "low bit first"
abbrev pub crc_byte : ℕ → ℕ → ℕ → ℕ
crc_byte poly c b = crc_bits poly 8 (bit_xor c b)

-- the bytes of a message after the remainder c
unfoldable pub remainder : ℕ → ℕ → List ℕ → ℕ
remainder poly c [] = c
remainder poly c (b ∷ bs) = remainder poly (crc_byte poly c b) bs

-- "The checksum should take the value to start from"
abbrev pub crc_from : ℕ → List ℕ → ℕ
crc_from start bs = remainder CRC16 start bs

-- the paper's: "start FFFF", "no final change"
abbrev pub crc : List ℕ → ℕ
crc bs = crc_from 0xFFFF bs
