-- `sm160_frame::part_of` meets its contract.
use Rattle.sm160_frame.specs.Layout.{part_of}
use Rattle.sm160_frame.proofs.part_of.Goals as goal

pub returns : goal.returns
unfolding part_of
returns c = cc
