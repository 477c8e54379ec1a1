-- What the printed traffic shows: one rule for the CRC16 and one for the CRC-32, and no other, and the flags.
-- Assumes nothing.
use mathlib.Core.Path.{◌≡◌, refl}
use mathlib.Core.List.{[], ◌∷◌, map}
use Rattle.wire.specs.Numbers.{number, of_le, field}
use Rattle.wire.specs.Refusal.{pick}
use Rattle.checksum.specs.Crc.{crc_bits, remainder}
use Rattle.checksum.specs.Crc32.{crc32_from}
use Rattle.sm160_frame.specs.Layout.{crc_of, crc_due, flags_of, part_of}
use Rattle.sm160_frame.specs.Carried.{joined}
use Rattle.sm160_frame.specs.Reading.{LARGEST, frame_fault}
use Rattle.sm160_datagram.specs.Layout.{crc_of as crc32Of, crc_due as crc32Due}
use Rattle.sm160_datagram.specs.Reading.{datagram_fault}
use Rattle.sm160_printed.specs.Printed.{
  printed,
  datagrams,
  agreeing,
  over_part,
  over_frame,
  ccitt_bits,
  ccitt_from,
  ccitt,
  over_length,
  over_options,
  over_data,
  from_zero,
  unturned,
  high_bits,
  high_from,
  high_first,
}

-- all eight agree with the frame's rule
pub all_agree : agreeing crc_of crc_due printed ≡ 8
unfolding agreeing number of_le field crc_bits remainder crc_due
all_agree = refl

-- none with 01's first reading, nor with the part from 0000, nor with the frame from FFFF
pub none_over_part : (agreeing crc_of (over_part 0xFFFF) printed ≡ 0) × (agreeing crc_of (over_part 0) printed ≡ 0)
unfolding agreeing number of_le field crc_bits remainder part_of
none_over_part = (refl, refl)

pub none_from_FFFF : agreeing crc_of (over_frame 0xFFFF 8) printed ≡ 0
unfolding agreeing number of_le field crc_bits remainder
none_from_FFFF = refl

-- none with CRC-16-CCITT, from 0000 or FFFF, with the CRC16 or the flags taken as zero
pub none_by_text :
    (agreeing crc_of (ccitt 0 8) printed ≡ 0) × (agreeing crc_of (ccitt 0xFFFF 8) printed ≡ 0)
    × (agreeing crc_of (ccitt 0 10) printed ≡ 0) × (agreeing crc_of (ccitt 0xFFFF 10) printed ≡ 0)
unfolding agreeing number of_le field ccitt_bits ccitt_from
none_by_text = (refl, refl, refl, refl)

-- QA 1, START 2, END 4: 001's comments beside the frames name these; the three frames with QA are the master's
pub printed_flags : map flags_of printed ≡ 7 ∷ 6 ∷ 3 ∷ 5 ∷ 2 ∷ 0 ∷ 0 ∷ 4 ∷ []
unfolding number of_le field
printed_flags = refl

-- the master's are refused for QA, the controller's are good
pub printed_faults : map (frame_fault LARGEST) printed ≡ 25 ∷ 0 ∷ 25 ∷ 25 ∷ 0 ∷ 0 ∷ 0 ∷ 0 ∷ []
unfolding number of_le field crc_bits remainder crc_due part_of frame_fault pick
printed_faults = refl

-- ---- the four datagrams: all agree with the CRC-32's rule, and with no other reading of it
pub all_datagrams_agree : agreeing crc32Of crc32Due datagrams ≡ 4
unfolding agreeing number of_le field crc_bits remainder crc32_from part_of joined crc32Due
all_datagrams_agree = refl

pub none_otherwise :
    (agreeing crc32Of over_length datagrams ≡ 0) × (agreeing crc32Of over_options datagrams ≡ 0) × (agreeing crc32Of over_data datagrams ≡ 0)
    × (agreeing crc32Of from_zero datagrams ≡ 0) × (agreeing crc32Of unturned datagrams ≡ 0)
unfolding agreeing number of_le field crc_bits remainder crc32_from part_of joined
none_otherwise = (refl, refl, refl, refl, refl)

pub none_high_first : agreeing crc32Of high_first datagrams ≡ 0
unfolding agreeing number of_le field high_bits high_from part_of joined
none_high_first = refl

-- they are well-formed
pub printed_datagrams : map datagram_fault datagrams ≡ 0 ∷ 0 ∷ 0 ∷ 0 ∷ []
unfolding number of_le field crc_bits remainder crc32_from part_of joined crc32Due datagram_fault pick
printed_datagrams = refl
