-- No second answer would do, for each public function.
-- Assumes nothing.
use mathlib.Core.Path.{sym, ◌∙◌}
use mathlib.Core.List.{List}
use Prim.Native.Nat.{ℕ}
use Rattle.wire.specs.Unique.{Unique}
use Rattle.wire.specs.Writes.{Written}
use Rattle.wire.proofs.Writes.{writes_once}
use Rattle.archive_card.proofs.read_archive_card.Reads as read-archive-card
use Rattle.archive_card.proofs.write_archive_card.Reads as write-archive-card
use Rattle.archive_card.proofs.to_archive_card.Reads as to-archive-card
use Rattle.archive_card.proofs.to_card.Reads as to-card
use Rattle.archive_card.proofs.ArchiveCardCardForm.widths.Reads as archive-card-widths

pub read_archive_card_unique : Unique read-archive-card.Post (λ κs r s. r)
read_archive_card_unique κs a r r' s s' e e' = e ∙ sym e'

pub write_archive_card_unique : Unique {Y = λ κs. Written × List ℕ} write-archive-card.Post (λ κs r s. (r, s.1.1.0.now))
write_archive_card_unique κs a r r' s s' w w' = writes_once _ _ _ _ _ _ _ w w'

pub to_archive_card_unique : Unique {Y = λ κs. Written × List ℕ} to-archive-card.Post (λ κs r s. (r, s.1.0.now))
to_archive_card_unique κs a r r' s s' w w' = writes_once _ _ _ _ _ _ _ w w'

pub to_card_unique : Unique {Y = λ κs. Written × List ℕ} to-card.Post (λ κs r s. (r, s.1.0.now))
to_card_unique κs a r r' s s' w w' = writes_once _ _ _ _ _ _ _ w w'

-- conversions, and the methods of traits, as each impl has them
pub archive_card_widths_unique : Unique archive-card-widths.Post (λ κs r s. r.now)
archive_card_widths_unique κs a r r' s s' e e' = e ∙ sym e'
