-- `sm160_text::next_device_plain` meets its contract.
use Rattle.sm160_text.specs.Line.{read_device}
use Rattle.sm160_text.proofs.next_device_plain.Goals as goal

pub returns : goal.returns
unfolding read_device
returns c = c.next_plain.ensures
