-- The SM160 datagram: what a file is that the frames carry.
-- Assumes nothing.
use Rattle.std.specs.Prelude.{ℕ, ◌+◌, ◌-◌, List, ◌∷◌, ◌++◌, length, take, drop, get_or}
use Rattle.checksum.specs.Crc32.{crc32}
use Rattle.wire.specs.Numbers.{le, of_le, field}

-- ---- the bytes of given fields; numbers are least significant first, as in a frame

-- what stands before the options, of n bytes; the compression flag is 0: "Compressed data is refused."
unfoldable pub opening_bytes : ℕ → ℕ → List ℕ
opening_bytes type n = type ∷ 0 ∷ le 4 n

-- what the CRC-32 covers. "Source document 001 decides the CRC-32's rule and coverage": from its field 1 to its field 5, which is the data, and
-- so not the data length
unfoldable pub covered_bytes : ℕ → List ℕ → List ℕ → List ℕ
covered_bytes type options content = opening_bytes type (length options) ++ (options ++ content)

-- what stands after the data, of n bytes, where `covered` is all before it
unfoldable pub closing_bytes : ℕ → List ℕ → List ℕ
closing_bytes n covered = le 8 n ++ le 4 (crc32 covered)

-- "type, compression flag, options length (4), options, data, data length (8), CRC-32 (4)"
unfoldable pub datagram_bytes : ℕ → List ℕ → List ℕ → List ℕ
datagram_bytes type options content = covered_bytes type options content ++ closing_bytes (length content) (covered_bytes type options content)

-- ---- the fields of given bytes, the last two from the end
abbrev pub type_of : List ℕ → ℕ
type_of d = get_or d 0 0

abbrev pub flag_of : List ℕ → ℕ
flag_of d = get_or d 1 0

abbrev pub options_length_of : List ℕ → ℕ
options_length_of d = of_le (field d 2 4)

abbrev pub options_of : List ℕ → List ℕ
options_of d = take (options_length_of d) (drop 6 d)

-- all before the data length
abbrev pub covered_of : List ℕ → List ℕ
covered_of d = take (length d - 12) d

abbrev pub data_of : List ℕ → List ℕ
data_of d = drop (6 + options_length_of d) (covered_of d)

abbrev pub data_length_of : List ℕ → ℕ
data_length_of d = of_le (field d (length d - 12) 8)

abbrev pub crc_of : List ℕ → ℕ
crc_of d = of_le (field d (length d - 4) 4)

-- the CRC-32 that they must bear
unfoldable pub crc_due : List ℕ → ℕ
crc_due d = crc32 (covered_of d)
