-- `sm160_frame::frame_fault` meets its contract.
use Rattle.wire.specs.Numbered.{refusal}
use Rattle.wire.proofs.Answer.{refuses, passes}
use Rattle.sm160_frame.specs.Reading.{frame_fault}
use Rattle.sm160_frame.proofs.frame_fault.Goals as goal

pub returns-then-too_short : goal.returns-then-too_short
unfolding frame_fault refusal
returns-then-too_short c = search (refuses, passes) depth 12

pub returns-then-wrong_size : goal.returns-then-wrong_size
unfolding frame_fault refusal
returns-then-wrong_size c = search (refuses, passes) depth 12

pub returns-then-bad_part_in : goal.returns-then-bad_part_in
unfolding frame_fault refusal
returns-then-bad_part_in c = search (refuses, passes) depth 12

pub returns-then-wrong_crc : goal.returns-then-wrong_crc
unfolding frame_fault refusal
returns-then-wrong_crc c = search (refuses, passes) depth 12

pub returns-then-bad_flags_in : goal.returns-then-bad_flags_in
unfolding frame_fault refusal
returns-then-bad_flags_in c = search (refuses, passes) depth 12

pub returns : goal.returns
unfolding frame_fault
returns c = search passes depth 12
