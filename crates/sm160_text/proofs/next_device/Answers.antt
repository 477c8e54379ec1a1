-- `sm160_text::next_device` meets its contract.
use Rattle.sm160_text.specs.Line.{read_device}
use Rattle.sm160_text.proofs.next_device.Goals as goal

pub returns : goal.returns
unfolding read_device
returns c = c.next.ensures
