-- Reading a new card: 50 to 54, then 56; and writing one: 52, 53, 55, 56, then 16.
-- Assumes nothing.
use Rattle.std.specs.Prelude.{ℕ, List, [], ◌∷◌, ◌++◌, Result, Ok, Err}
use Rattle.wire.specs.Refusal.{Rule, first}
use Rattle.wire.specs.Answer.{judged}
use Rattle.wire.specs.Numbered.{number_of}
use Rattle.wire.specs.Told.{Told, accepted, refused}
use Rattle.archive.specs.Archive.{source_number}
use Rattle.card.specs.Reading.{form_rules, card_numbers}
use Rattle.card.specs.Writing.{form_write_rules}
use Rattle.card.specs.declared.Card.{Card}
use Rattle.archive_card.specs.Layout.{archive_form, archive_card_of}
use Rattle.archive_card.specs.declared.ArchiveCard.{ArchiveCard}
use Rattle.wire.specs.declared.refusals.Refusal.{Refusal}

abbrev pub archive_rules : List ℕ → List Rule
archive_rules s = form_rules archive_form s

unfoldable pub read_archive_card : List ℕ → Result ArchiveCard Refusal
read_archive_card s = judged (archive_card_of s) (first (archive_rules s))

-- a card's numbers, and the archive kind
abbrev pub told_archive_card_read : Result ArchiveCard Refusal → Told
told_archive_card_read (Ok a) = accepted (card_numbers a.card ++ (source_number a.source ∷ []))
told_archive_card_read (Err e) = refused (number_of e)

-- ---- writing
abbrev pub archive_write_rules : Card → ℕ → List ℕ → List Rule
archive_write_rules c kind out = form_write_rules archive_form c (kind ∷ []) out
