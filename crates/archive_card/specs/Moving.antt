-- Cards moved from one form to the other: what the reader of the one refuses, and then what stands in the way of the other.
-- Assumes nothing.
use Rattle.std.specs.Prelude.{ℕ, Bool, not, List, [], ◌∷◌, ◌++◌, eqb}
use Rattle.wire.specs.Refusal.{Rule, ◌when◌}
use Rattle.card.specs.Layout.{card_of, card_form, card_bytes}
use Rattle.card.specs.Reading.{read_rules}
use Rattle.card.specs.Writing.{too_small}
use Rattle.archive_card.specs.Layout.{archive_form, archive_bytes, archive_number}
use Rattle.archive_card.specs.Reading.{archive_rules}

-- "Old cards become new ones with kind 0"
abbrev pub new_bytes : List ℕ → List ℕ
new_bytes s = archive_bytes (card_of s) 0

abbrev pub new_rules : List ℕ → List ℕ → List Rule
new_rules s out = read_rules s ++ (16 when too_small archive_form.size out ∷ [])

-- "and new ones of kind 0 go back to the same 17 bytes"
abbrev pub old_bytes : List ℕ → List ℕ
old_bytes s = card_bytes (card_of s)

-- 57 moving back a kind not 0
abbrev pub not_current : ℕ → Bool
not_current kind = not (eqb kind 0)

abbrev pub back_rules : List ℕ → List ℕ → List Rule
back_rules s out = 57 when not_current (archive_number s) ∷ 16 when too_small card_form.size out ∷ []

abbrev pub old_rules : List ℕ → List ℕ → List Rule
old_rules s out = archive_rules s ++ back_rules s out
