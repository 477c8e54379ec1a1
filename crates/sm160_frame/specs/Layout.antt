-- The SM160 frame.
-- Assumes nothing.
use Rattle.std.specs.Prelude.{ℕ, ◌/◌, ◌%◌, Bool, ◌||◌, List, ◌∷◌, ◌++◌, eqb, length, take, drop}
use Rattle.checksum.specs.Crc.{crc_from}
use Rattle.wire.specs.Numbers.{le, of_le, field}

-- QA marks a master's frame: "We read QA as 1"
abbrev pub QA : ℕ
QA = 1

-- a file's first frame: "START as 2"
abbrev pub START : ℕ
START = 2

-- its last: "The traffic shows END as 4"
abbrev pub END : ℕ
END = 4

abbrev pub is_flag : ℕ → Bool
is_flag flag = eqb flag QA || eqb flag START || eqb flag END

-- a flag among flags
abbrev pub has : ℕ → ℕ → Bool
has flag flags = eqb (flags / flag % 2) 1

-- "the frame's CRC16 as the rule above over the part. If the flag table, checksum rule or traffic of 001 says otherwise, it decides, in the
-- one definition of each." The traffic does: CRC-16 from 0000, over the whole frame with its own two bytes taken as zero
unfoldable pub crc_due : List ℕ → ℕ
crc_due s = crc_from 0 (take 8 s ++ (0 ∷ 0 ∷ drop 10 s))

-- "session 2, offset 4, part size 2, CRC16 2, flags 2, then the part; numbers least significant first": with any CRC16, and with the one
-- that is due
unfoldable pub frame_with : ℕ → ℕ → ℕ → ℕ → List ℕ → List ℕ
frame_with crc session offset flags part = le 2 session ++ (le 4 offset ++ (le 2 (length part) ++ (le 2 crc ++ (le 2 flags ++ part))))

unfoldable pub frame_bytes : ℕ → ℕ → ℕ → List ℕ → List ℕ
frame_bytes session offset flags part = frame_with (crc_due (frame_with 0 session offset flags part)) session offset flags part

-- the fields of given bytes: "session 2, offset 4, part size 2, CRC16 2, flags 2, then the part"
abbrev pub session_of : List ℕ → ℕ
session_of s = of_le (field s 0 2)

abbrev pub offset_of : List ℕ → ℕ
offset_of s = of_le (field s 2 4)

abbrev pub size_of : List ℕ → ℕ
size_of s = of_le (field s 6 2)

abbrev pub crc_of : List ℕ → ℕ
crc_of s = of_le (field s 8 2)

abbrev pub flags_of : List ℕ → ℕ
flags_of s = of_le (field s 10 2)

unfoldable pub part_of : List ℕ → List ℕ
part_of s = drop 12 s

-- whether the flag is set
unfoldable pub is_start : List ℕ → Bool
is_start s = has START (flags_of s)

unfoldable pub is_end : List ℕ → Bool
is_end s = has END (flags_of s)
