-- `sm160_text::next_record_plain` meets its contract.
use Rattle.sm160_text.specs.Line.{read_record}
use Rattle.sm160_text.proofs.next_record_plain.Goals as goal

pub returns : goal.returns
unfolding read_record
returns c = c.next_plain.ensures
