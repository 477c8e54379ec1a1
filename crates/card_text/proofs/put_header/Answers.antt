-- `card_text::put_header` meets its contract.
use mathlib.Core.Path.{sym, ap}
use Rattle.wire.specs.Digits.{ascii}
use Rattle.card_text.specs.Line.{header}
use Rattle.card_text.proofs.Line.{writes_of}
use Rattle.card_text.proofs.put_header.Goals as goal

pub returns-in-Card : goal.returns-in-Card
unfolding header ascii
returns-in-Card c = writes_of _ _ _ _ _ (sym (ap header c.in-Card.is)) c.put_text.ensures

pub returns-in-ArchiveCard : goal.returns-in-ArchiveCard
unfolding header ascii
returns-in-ArchiveCard c = writes_of _ _ _ _ _ (sym (ap header c.in-ArchiveCard.is)) c.put_text-in-ArchiveCard.ensures
