-- `sm160_frame::is_start` meets its contract.
use Rattle.sm160_frame.specs.Layout.{is_start}
use Rattle.sm160_frame.proofs.is_start.Goals as goal

pub returns : goal.returns
unfolding is_start
returns c = cc
