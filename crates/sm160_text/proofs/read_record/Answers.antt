-- `sm160_text::read_record` meets its contract.
use Rattle.sm160_text.specs.Line.{read_record}
use Rattle.sm160_text.proofs.read_record.Goals as goal

pub returns : goal.returns
unfolding read_record
returns c = c.read.ensures
