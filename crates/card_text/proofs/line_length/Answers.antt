-- `card_text::line_length` meets its contract.
use mathlib.Core.Path.{sym, ap, ◌∙◌}
use Prim.Native.Nat.{ℕ, ◌+◌}
use Rattle.card_text.proofs.Line.{card_long, archive_long, length_refused}
use Rattle.card_text.proofs.line_length.Goals as goal

pub returns-in-Ok-Card : goal.returns-in-Ok-Card
returns-in-Ok-Card c = card_long _ _ _ _ c.in-Ok-Card.is (rw c.in-Ok-Card.is at c.in-Ok-Card.field-0-is) c.plain_width.ensures.0

pub returns-in-Ok-ArchiveCard : goal.returns-in-Ok-ArchiveCard
returns-in-Ok-ArchiveCard c = archive_long _ _ _ _ c.in-Ok-ArchiveCard.is (rw c.in-Ok-ArchiveCard.is at c.in-Ok-ArchiveCard.field-0-is) c.plain_width-in-Ok-ArchiveCard.ensures.0

pub returns-in-Err : goal.returns-in-Err
returns-in-Err c = rw c.in-Err.is (ap (λ (n : ℕ). 9 + n) c.plain_width-in-Err.ensures.0 ∙ sym (length_refused _))
