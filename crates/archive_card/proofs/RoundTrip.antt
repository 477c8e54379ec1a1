-- A new card that is written reads back, and bytes that are read as one, written again, are the same bytes: the law of forms.
-- Assumes nothing.
use mathlib.Core.Path.{◌≡◌, refl, sym, ap, ap₂, ◌∙◌}
use mathlib.Core.List.{List, [], ◌∷◌}
use Prim.Native.Nat.{ℕ, ◌≤◌}
use lib.ListN.{length, get_or, take}
use borrow.Author.Tests.{ltb-false}
use Rattle.wire.specs.Each.{Bytes}
use Rattle.wire.specs.Numbers.{over}
use Rattle.std.specs.Prelude.{Ok}
use Rattle.wire.specs.Refusal.{first}
use Rattle.wire.specs.Writes.{Written, Writes}
use Rattle.wire.proofs.Answer.{judged_none, accepted_as}
use Rattle.wire.proofs.Rules.{none_first, first_none}
use Rattle.archive.specs.Archive.{source_from, source_number}
use Rattle.archive.proofs.Laws.{source_again}
use Rattle.reading.specs.Reading.{FitsKind}
use Rattle.card.specs.Reading.{Reads}
use Rattle.card.specs.declared.Card.{Card}
use Rattle.card.proofs.Form.{form_reads_back, form_writes_again}
use Rattle.archive_card.specs.Layout.{archive_form, archive_bytes, archive_number, archive_card_of}
use Rattle.archive_card.specs.Reading.{archive_rules, read_archive_card, archive_write_rules}
use Rattle.archive_card.specs.declared.ArchiveCard.{ArchiveCard}
use Rattle.archive_card.proofs.Form.{own_one, archive_lawful}

-- what reads as a card of that kind is answered so
pub read_is : (s : List ℕ) (c : Card) (kind : ℕ) → Reads archive_form s c (kind ∷ []) → read_archive_card s ≡ Ok (record { card = c; source = source_from kind })
unfolding read_archive_card
read_is s c kind read =
    judged_none (archive_card_of s) _ (first_none (archive_rules s) read.good)
    ∙ ap₂ (λ (x : Card) (n : ℕ). Ok (record { card = x; source = source_from n })) read.card (ap (λ (vs : List ℕ). get_or vs 0 0) read.further)

-- and what is answered so reads so
pub archive_read_as : (s : List ℕ) (a : ArchiveCard) → read_archive_card s ≡ Ok a → Reads archive_form s a.card (source_number a.source ∷ [])
unfolding read_archive_card
archive_read_as s a e =
    let said = accepted_as (archive_card_of s) (first (archive_rules s)) a e in
    let made = said.1 in
    let none = none_first (archive_rules s) tt said.0 in
    let few : archive_number s ≤ 4 = ltb-false 4 (archive_number s) none.1.1.1.1.1.0 in
    let kind : archive_number s ≡ source_number a.source = sym (source_again (archive_number s) few) ∙ ap (λ (x : ArchiveCard). source_number x.source) made in
    record { good = none; card = ap (λ (x : ArchiveCard). x.card) made; further = own_one s ∙ ap (λ (n : ℕ). n ∷ []) kind }

pub archive_card_reads_back : (c : Card) (kind : ℕ) (out : List ℕ) (r : Written) (out' : List ℕ) (k : ℕ) → FitsKind c.value
    → Writes (first (archive_write_rules c kind out)) (archive_bytes c kind) out r out' → r ≡ Ok k
    → read_archive_card (take k out') ≡ Ok (record { card = c; source = source_from kind })
unfolding archive_bytes
archive_card_reads_back c kind out r out' k fits w e =
    read_is (take k out') c kind (form_reads_back archive_form archive_lawful c (kind ∷ []) out r out' k fits refl w e)

pub archive_card_writes_again : (s : List ℕ) (a : ArchiveCard) (out : List ℕ) (r : Written) (out' : List ℕ) → Bytes s → read_archive_card s ≡ Ok a → 18 ≤ length out
    → Writes (first (archive_write_rules a.card (source_number a.source) out)) (archive_bytes a.card (source_number a.source)) out r out'
    → (r ≡ Ok 18) × (out' ≡ over out s)
unfolding archive_bytes
archive_card_writes_again s a out r out' bytes read room w =
    form_writes_again archive_form archive_lawful s a.card (source_number a.source ∷ []) out r out' bytes (archive_read_as s a read) room w
