-- `sm160_receiver::reach` meets its contract.
use Rattle.sm160_receiver.specs.Receiving.{reached}
use Rattle.sm160_receiver.proofs.reach.Goals as goal

pub returns : goal.returns
unfolding reached
returns c = cc
