-- `sm160_receiver::Receiver::place_fault` meets its contract.
use Rattle.wire.specs.Numbered.{refusal as by_number}
use Rattle.wire.proofs.Answer.{refuses, passes}
use Rattle.sm160_receiver.proofs.Receiver.place_fault.Goals as goal

pub returns-then-other_session : goal.returns-then-other_session
unfolding by_number
returns-then-other_session c = search (refuses, passes) depth 12

pub returns-then-nothing_under_way : goal.returns-then-nothing_under_way
unfolding by_number
returns-then-nothing_under_way c = search (refuses, passes) depth 12

pub returns-then-start_elsewhere : goal.returns-then-start_elsewhere
unfolding by_number
returns-then-start_elsewhere c = search (refuses, passes) depth 12

pub returns-then-below_count : goal.returns-then-below_count
unfolding by_number
returns-then-below_count c = search (refuses, passes) depth 12

pub returns-then-above_count : goal.returns-then-above_count
unfolding by_number
returns-then-above_count c = search (refuses, passes) depth 12

pub returns-then-beyond_buffer : goal.returns-then-beyond_buffer
unfolding by_number
returns-then-beyond_buffer c = search (refuses, passes) depth 12

pub returns : goal.returns
returns c = search passes depth 12
