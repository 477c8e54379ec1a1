-- The edges of a frame, computed.
-- Assumes nothing.
use mathlib.Core.Path.{refl}
use Rattle.checksum.specs.Crc.{remainder, crc_bits}
use Rattle.wire.specs.Numbered.{refusal}
use Rattle.wire.specs.Numbers.{field, digits, number, le, of_le, bcd, of_bcd, is_bcd}
use Rattle.wire.specs.Refusal.{pick}
use Rattle.wire.specs.Told.{AllHold}
use Rattle.pulsar_frame.specs.Layout.{frame_body, frame_bytes}
use Rattle.pulsar_frame.specs.Reading.{read_at_meter}
use Rattle.pulsar_frame.specs.Edges.{frame_edges, frame_beside}

pub frame_edges_lem : AllHold frame_edges
unfolding read_at_meter refusal remainder crc_bits field is_bcd of_bcd of_le number pick
frame_edges_lem = (refl, (refl, (refl, (refl, (refl, tt)))))

pub frame_beside_lem : AllHold frame_beside
unfolding read_at_meter frame_bytes frame_body remainder crc_bits field is_bcd of_bcd bcd le digits of_le number pick
frame_beside_lem = (refl, (refl, tt))
