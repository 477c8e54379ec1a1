-- `sm160_receiver::open` meets its contract.
use Rattle.wire.specs.Numbered.{refusal as by_number}
use Rattle.wire.proofs.Answer.{refuses, passes}
use Rattle.sm160_receiver.specs.Receiving.{opening}
use Rattle.sm160_receiver.proofs.open.Goals as goal

pub returns-then-bad_largest : goal.returns-then-bad_largest
unfolding opening by_number
returns-then-bad_largest c = search (refuses, passes) depth 12

pub returns : goal.returns
unfolding opening
returns c = search passes depth 12
