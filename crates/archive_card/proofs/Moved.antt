-- Cards moved to the other form and back are the same bytes, and their fields stay. Of calls, as their contracts have them.
-- Assumes nothing.
use mathlib.Core.Path.{◌≡◌, refl, sym, ap, ◌∙◌, subst}
use mathlib.Core.List.{List, [], ◌∷◌}
use Prim.Native.Nat.{ℕ, ◌≤◌}
use lib.Dec.{eqb}
use lib.ListN.{length, get_or, take}
use borrow.Author.Tests.{eqb-true, le-ltb, not-false}
use Rattle.wire.specs.Each.{Bytes}
use Rattle.wire.specs.Numbers.{over}
use Rattle.std.specs.Prelude.{Ok}
use Rattle.wire.specs.Refusal.{◌when◌, first, NoneHolds}
use Rattle.wire.specs.Writes.{Written, Writes}
use Rattle.wire.proofs.Answer.{judged_none}
use Rattle.wire.proofs.Rules.{none_first, first_none, none_append, none_both}
use Rattle.wire.proofs.Writes.{wrote_front, wrote_all}
use Rattle.archive.specs.declared.Source.TheVariants as S
use Rattle.card.specs.Layout.{card_of, card_form, card_bytes}
use Rattle.card.specs.Reading.{Reads, read_rules, read_card}
use Rattle.card.specs.Writing.{too_small}
use Rattle.card.specs.declared.Card.{Card}
use Rattle.card.proofs.Form.{read_fits, form_read, form_written}
use Rattle.card.proofs.RoundTrip.{card_lawful, read_as}
use Rattle.card.proofs.Written.{length_card}
use Rattle.archive_card.specs.Layout.{archive_form, archive_bytes, archive_number}
use Rattle.archive_card.specs.Reading.{archive_rules, read_archive_card}
use Rattle.archive_card.specs.Moving.{new_bytes, new_rules, old_bytes, not_current, back_rules, old_rules}
use Rattle.archive_card.specs.declared.ArchiveCard.{ArchiveCard}
use Rattle.archive_card.proofs.Form.{length_archive, archive_lawful}
use Rattle.archive_card.proofs.Moving.{old_again, new_again}
use Rattle.archive_card.proofs.RoundTrip.{read_is, archive_read_as}

-- ---- one call

-- what is moved to the new form reads there as the same card, of kind 0
module _ (s out : List ℕ) (r : Written) (out' : List ℕ) (k : ℕ) (w : Writes (first (new_rules s out)) (new_bytes s) out r out') (e : r ≡ Ok k) where
  there_good : NoneHolds (read_rules s)
  there_good =
      let p = wrote_front _ (new_bytes s) out r out' k w e in
      (none_append (read_rules s) (16 when too_small 18 out ∷ []) (none_first (new_rules s out) tt p.0)).0

  there_reads : Reads archive_form (take k out') (card_of s) (0 ∷ [])
  unfolding archive_bytes
  there_reads =
      let p = wrote_front _ (new_bytes s) out r out' k w e in
      subst (λ (x : List ℕ). Reads archive_form x (card_of s) (0 ∷ [])) (sym p.1)
      (form_read archive_form archive_lawful (0 ∷ []) refl (refl, tt) (card_of s) (read_fits s) (form_written card_form card_lawful s there_good))

  pub fields_stay : (c : Card) → read_card s ≡ Ok c → read_archive_card (take k out') ≡ Ok (record { card = c; source = S.Current })
  fields_stay c read =
      read_is (take k out') (card_of s) 0 there_reads
      ∙ ap (λ (x : Card). Ok (record { card = x; source = S.Current })) (read_as s c read).card

-- what is moved back reads there as the same card
module _ (s out : List ℕ) (r : Written) (out' : List ℕ) (k : ℕ) (w : Writes (first (old_rules s out)) (old_bytes s) out r out') (e : r ≡ Ok k) where
  back_good : NoneHolds (archive_rules s) × (archive_number s ≡ 0)
  back_good =
      let p = wrote_front _ (old_bytes s) out r out' k w e in
      let none = none_append (archive_rules s) (back_rules s out) (none_first (old_rules s out) tt p.0) in
      (none.0, eqb-true (archive_number s) 0 (not-false (eqb (archive_number s) 0) none.1.0))

  back_reads : Reads card_form (take k out') (card_of s) []
  unfolding card_bytes
  back_reads =
      let p = wrote_front _ (old_bytes s) out r out' k w e in
      subst (λ (x : List ℕ). Reads card_form x (card_of s) []) (sym p.1)
      (form_read card_form card_lawful [] refl tt (card_of s) (read_fits s) (form_written archive_form archive_lawful s back_good.0))

  pub fields_stay_back : (a : ArchiveCard) → read_archive_card s ≡ Ok a → read_card (take k out') ≡ Ok a.card
  unfolding read_card
  fields_stay_back a read =
      judged_none (card_of (take k out')) _ (first_none (read_rules (take k out')) back_reads.good)
      ∙ ap Ok (back_reads.card ∙ (archive_read_as s a read).card)

-- ---- two calls: the second gets the bytes that the first wrote
module _ (s out : List ℕ) (r : Written) (out' : List ℕ) (k : ℕ) (bytes : Bytes s) (out₂ : List ℕ) (r₂ : Written) (out₂' : List ℕ) where
  pub there_and_back : Writes (first (new_rules s out)) (new_bytes s) out r out' → r ≡ Ok k → 17 ≤ length out₂
      → Writes (first (old_rules (take k out') out₂)) (old_bytes (take k out')) out₂ r₂ out₂' → (r₂ ≡ Ok 17) × (out₂' ≡ over out₂ s)
  there_and_back w e room w₂ =
      let t = take k out' in
      let read = there_reads s out r out' k w e in
      let current : archive_number t ≡ 0 = ap (λ (vs : List ℕ). get_or vs 0 0) read.further in
      let none = none_both (archive_rules t) (back_rules t out₂) read.good (ap not_current current, (le-ltb (length out₂) 17 room, tt)) in
      let p = wrote_all (first (old_rules t out₂)) (old_bytes t) out₂ r₂ out₂' w₂ (first_none (old_rules t out₂) none) in
      (p.0 ∙ ap Ok (length_card (card_of t)), p.1 ∙ ap (over out₂) (ap card_bytes read.card ∙ old_again s bytes (there_good s out r out' k w e)))

  pub back_and_there : Writes (first (old_rules s out)) (old_bytes s) out r out' → r ≡ Ok k → 18 ≤ length out₂
      → Writes (first (new_rules (take k out') out₂)) (new_bytes (take k out')) out₂ r₂ out₂' → (r₂ ≡ Ok 18) × (out₂' ≡ over out₂ s)
  back_and_there w e room w₂ =
      let t = take k out' in
      let read = back_reads s out r out' k w e in
      let good = back_good s out r out' k w e in
      let none = none_both (read_rules t) (16 when too_small 18 out₂ ∷ []) read.good (le-ltb (length out₂) 18 room, tt) in
      let p = wrote_all (first (new_rules t out₂)) (new_bytes t) out₂ r₂ out₂' w₂ (first_none (new_rules t out₂) none) in
      (p.0 ∙ ap Ok (length_archive (card_of t) 0), p.1 ∙ ap (over out₂) (ap (λ (c : Card). archive_bytes c 0) read.card ∙ new_again s bytes good.0 good.1))
