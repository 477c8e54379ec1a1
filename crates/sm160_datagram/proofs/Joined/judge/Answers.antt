-- `sm160_datagram::Joined::judge` meets its contract.
use Rattle.wire.specs.Numbered.{refusal}
use Rattle.wire.proofs.Answer.{refuses, passes}
use Rattle.sm160_datagram.specs.Reading.{datagram_fault}
use Rattle.sm160_datagram.proofs.Joined.judge.Goals as goal

pub returns-then-bad_lengths : goal.returns-then-bad_lengths
unfolding datagram_fault refusal
returns-then-bad_lengths c = search (refuses, passes) depth 12

pub returns-then-wrong_crc : goal.returns-then-wrong_crc
unfolding datagram_fault refusal
returns-then-wrong_crc c = search (refuses, passes) depth 12

pub returns-then-is_compressed : goal.returns-then-is_compressed
unfolding datagram_fault refusal
returns-then-is_compressed c = search (refuses, passes) depth 12

pub returns : goal.returns
unfolding datagram_fault
returns c = search passes depth 12
