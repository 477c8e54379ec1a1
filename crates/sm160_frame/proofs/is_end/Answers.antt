-- `sm160_frame::is_end` meets its contract.
use Rattle.sm160_frame.specs.Layout.{is_end}
use Rattle.sm160_frame.proofs.is_end.Goals as goal

pub returns : goal.returns
unfolding is_end
returns c = cc
