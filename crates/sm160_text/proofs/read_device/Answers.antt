-- `sm160_text::read_device` meets its contract.
use Rattle.sm160_text.specs.Line.{read_device}
use Rattle.sm160_text.proofs.read_device.Goals as goal

pub returns : goal.returns
unfolding read_device
returns c = c.read.ensures
