-- The card that says which archive it came from: the fields of every card, then the archive kind and spare bits.
-- Assumes nothing.
use Rattle.std.specs.Prelude.{ℕ, Bool, List, [], ◌∷◌, ltb, get_or}
use Rattle.wire.specs.Refusal.{Rule, ◌when◌}
use Rattle.archive.specs.Archive.{source_from}
use Rattle.card.specs.Layout.{fields_in, card_from, Form, form_bytes, own_of}
use Rattle.card.specs.declared.Card.{Card}
use Rattle.card.specs.declared.fields.Fields.{Fields}
use Rattle.archive_card.specs.declared.ArchiveCard.{ArchiveCard}

-- 56 archive kind above 4
abbrev pub bad_archive : ℕ → Bool
bad_archive kind = ltb 4 kind

abbrev pub own_rules : List ℕ → List Rule
own_rules own = 56 when bad_archive (get_or own 0 0) ∷ []

-- "The new card has 18 bytes: the old fields, then archive kind 3 .. spare 10, most significant bit first."
abbrev pub archive_form : Form
archive_form = record { size = 18; own = 3 ∷ []; spare = 10; rules = own_rules }

unfoldable pub archive_bytes : Card → ℕ → List ℕ
archive_bytes c kind = form_bytes archive_form c (kind ∷ [])

abbrev pub archive_number : List ℕ → ℕ
archive_number s = get_or (own_of archive_form s) 0 0

abbrev pub archive_card_from : Fields → ℕ → ArchiveCard
archive_card_from f kind = record { card = card_from f; source = source_from kind }

abbrev pub archive_card_of : List ℕ → ArchiveCard
archive_card_of s = archive_card_from (fields_in s) (archive_number s)
