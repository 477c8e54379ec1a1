-- The new form: its two fields as the code reads them, how long it is, and that it can be read again as it was written.
-- Assumes nothing.
use mathlib.Core.Path.{◌≡◌, refl}
use mathlib.Core.List.{List, [], ◌∷◌, ◌++◌}
use Prim.Native.Nat.{ℕ, ◌^◌, ◌<◌}
use native.Mathlib.Omega.{arith}
use lib.ListN.{length, get_or}
use borrow.Author.Tests.{ltb-false}
use Rattle.wire.specs.Refusal.{◌when◌, NoneHolds}
use Rattle.bits.specs.Fields.{joined, packed, unpacked, values_from, total, Fit}
use Rattle.bits.proofs.Bits.{length_bytes_of}
use Rattle.bits.proofs.Fields.{value_fits}
use Rattle.card.specs.Layout.{fields, widths_of, after_fields, own_of, Lawful}
use Rattle.card.specs.declared.Card.{Card}
use Rattle.archive_card.specs.Layout.{bad_archive, archive_form, archive_bytes, archive_number}

pub archive_found : (s : List ℕ) → get_or (unpacked (widths_of archive_form) s) 10 0 ≡ archive_number s
unfolding after_fields values_from
archive_found s = refl

pub archive_fits : (s : List ℕ) → archive_number s < 2 ^ 3
unfolding after_fields values_from
archive_fits s = value_fits (widths_of archive_form) s 10

-- a value that is missing is 0, and so are the spare bits
pub spare_missing : (card : Card) (kind : ℕ) → packed 18 (widths_of archive_form) (fields card ++ (kind ∷ [])) ≡ archive_bytes card kind
unfolding archive_bytes joined
spare_missing card kind = refl

-- its one own field
pub own_one : (s : List ℕ) → own_of archive_form s ≡ archive_number s ∷ []
unfolding after_fields values_from
own_one s = refl

pub length_archive : (c : Card) (kind : ℕ) → length (archive_bytes c kind) ≡ 18
unfolding archive_bytes
length_archive c kind = length_bytes_of 18 (joined (widths_of archive_form) (fields c ++ (kind ∷ 0 ∷ [])))

pub archive_lawful : Lawful archive_form
unfolding total
archive_lawful = record { filled = refl; numbers = λ own. tt; fits = one }
  where
    one : (own : List ℕ) → length own ≡ 1 → NoneHolds (56 when bad_archive (get_or own 0 0) ∷ []) → Fit (3 ∷ []) own
    one [] e h = absurd (omega arith)
    one (v ∷ []) e h = (omega (arith, ltb-false 4 v h.0), tt)
    one (v ∷ (w ∷ vs)) e h = absurd (omega arith)
