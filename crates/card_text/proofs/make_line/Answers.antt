-- `card_text::make_line` meets its contract.
use Rattle.std.proofs.Common.{rules}
use Rattle.wire.specs.Digits.{ascii}
use Rattle.card_text.proofs.make_line.Goals as goal

pub returns-in-Ok-Card : goal.returns-in-Ok-Card
unfolding ascii
returns-in-Ok-Card c = search rules
