-- `pulsar_body::room_fault` meets its contract.
use Rattle.wire.specs.Numbered.{refusal}
use Rattle.wire.proofs.Answer.{refuses, passes}
use Rattle.pulsar_body.proofs.room_fault.Goals as goal

pub returns-then-too_long : goal.returns-then-too_long
unfolding refusal
returns-then-too_long c = search (refuses, passes) depth 12

pub returns-then-no_room : goal.returns-then-no_room
unfolding refusal
returns-then-no_room c = search (refuses, passes) depth 12

pub returns : goal.returns
returns c = search passes depth 12
