-- The receiver's edges hold, computed.
-- Assumes nothing.
use mathlib.Core.Path.{◌≡◌, refl}
use Rattle.wire.specs.Numbers.{digits, number, le, of_le, field}
use Rattle.wire.specs.Numbered.{refusal as by_number}
use Rattle.wire.specs.Refusal.{pick}
use Rattle.wire.specs.Told.{AllHold}
use Rattle.checksum.specs.Crc.{crc_bits, remainder}
use Rattle.sm160_frame.specs.Layout.{crc_due, part_of, is_start, is_end, frame_with, frame_bytes}
use Rattle.sm160_receiver.specs.Receiving.{reached, unfit, refusal, step}
use Rattle.sm160_printed.specs.Printed.{reply141}
use Rattle.sm160_printed.specs.Edges.{brought_at, receiver_edges}

-- the frame at 141 is the printed one
pub printed_141 : brought_at 141 ≡ reply141
unfolding digits le crc_bits remainder crc_due part_of frame_with frame_bytes
printed_141 = refl

pub receiver_edges_lem : AllHold receiver_edges
unfolding digits number le of_le field pick crc_bits remainder crc_due part_of is_start is_end frame_with frame_bytes reached unfit refusal by_number step
receiver_edges_lem = (refl, (refl, (refl, tt)))
