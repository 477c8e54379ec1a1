-- A new card of kind 0 is the old card and a byte 0. So the code moves cards by copying bytes.
-- Assumes nothing.
use mathlib.Core.Path.{◌≡◌, refl, sym, ap, ◌∙◌}
use mathlib.Core.Bool.{Bool, false}
use mathlib.Core.List.{List, [], ◌∷◌, ◌++◌}
use Prim.Native.Nat.{ℕ}
use native.Mathlib.Nat.{le_of_eq}
use native.Mathlib.Omega.{arith}
use lib.ListN.{length, set, take}
use lib.Seq.{sets, take_all, take_at}
use borrow.Author.Tests.{eqb-true, not-false}
use Rattle.wire.specs.Each.{Bytes}
use Rattle.wire.specs.Numbers.{digits, number, field, over}
use Rattle.wire.specs.Refusal.{NoneHolds}
use Rattle.wire.proofs.Rules.{none_append}
use Rattle.wire.proofs.Fields.{field_take}
use Rattle.wire.proofs.Writing.{sets_then}
use Rattle.bits.specs.Bits.{bits, of_bits, bytes_of}
use Rattle.bits.specs.Fields.{joined, packed, total}
use Rattle.bits.proofs.Fields.{joined_append}
use Rattle.bits.proofs.Write.{packed_append}
use Rattle.card.specs.Layout.{field_widths, fields, card_of, widths_of, card_form, card_bytes}
use Rattle.card.specs.Reading.{read_rules}
use Rattle.card.specs.Writing.{too_small}
use Rattle.card.specs.declared.Card.{Card}
use Rattle.card.proofs.Form.{form_again}
use Rattle.card.proofs.RoundTrip.{card_lawful}
use Rattle.card.proofs.Written.{length_card, form_over}
use Rattle.archive_card.specs.Layout.{archive_form, archive_bytes, archive_number}
use Rattle.archive_card.specs.Reading.{archive_rules}
use Rattle.archive_card.specs.Moving.{new_bytes, old_bytes, back_rules, old_rules}
use Rattle.archive_card.proofs.Form.{own_one, length_archive, archive_lawful}

-- 13 bits 0 after the ten fields are 5 and 8
zeros : (c : Card) → joined (widths_of archive_form) (fields c ++ (0 ∷ 0 ∷ [])) ≡ joined (widths_of card_form ++ (8 ∷ [])) ((fields c ++ (0 ∷ [])) ++ (0 ∷ []))
unfolding joined bits digits
zeros c = joined_append field_widths (fields c) (3 ∷ 10 ∷ []) (0 ∷ 0 ∷ []) refl ∙ sym (joined_append field_widths (fields c) (5 ∷ 8 ∷ []) (0 ∷ 0 ∷ []) refl)

pub kind_0 : (c : Card) → archive_bytes c 0 ≡ card_bytes c ++ (0 ∷ [])
unfolding archive_bytes card_bytes total joined bits digits bytes_of of_bits number field
kind_0 c = ap (bytes_of 18) (zeros c) ∙ packed_append 17 1 (widths_of card_form) (fields c ++ (0 ∷ [])) (8 ∷ []) (0 ∷ []) refl refl

module _ (s : List ℕ) (bytes : Bytes s) where
  -- an old card moved
  module _ (none : NoneHolds (read_rules s)) where
    pub old_again : card_bytes (card_of s) ≡ s
    unfolding card_bytes
    old_again = form_again card_form card_lawful s none bytes

    pub new_stored : (out one two : List ℕ) (r : Bool) → one ≡ sets out 0 (field s 0 17) → two ≡ set one 17 0 → r ≡ too_small 18 out → r ≡ false → two ≡ over out (new_bytes s)
    new_stored out one two r e₁ e₂ small room =
        let long : length s ≡ 17 = eqb-true (length s) 17 (not-false _ none.0) in
        e₂
        ∙ ap (λ (o : List ℕ). set o 17 0) (e₁ ∙ ap (sets out 0) (field_take s 0 17 (le_of_eq (sym long)) ∙ take_all 17 s (le_of_eq long)))
        ∙ sets_then out s (0 ∷ []) 17 long
        ∙ ap (sets out 0) (sym (kind_0 (card_of s) ∙ ap (λ (l : List ℕ). l ++ (0 ∷ [])) old_again))
        ∙ form_over 18 (new_bytes s) out r (length_archive (card_of s) 0) small room

  -- a new one of kind 0
  module _ (none : NoneHolds (archive_rules s)) (current : archive_number s ≡ 0) where
    pub new_again : archive_bytes (card_of s) 0 ≡ s
    unfolding archive_bytes
    new_again =
        ap (λ (kind : ℕ). archive_bytes (card_of s) kind) (sym current)
        ∙ ap (λ (own : List ℕ). packed 18 (widths_of archive_form) (fields (card_of s) ++ (own ++ (0 ∷ [])))) (sym (own_one s))
        ∙ form_again archive_form archive_lawful s none bytes

  pub old_stored : (out one : List ℕ) → NoneHolds (old_rules s out) → one ≡ sets out 0 (field s 0 17) → one ≡ over out (old_bytes s)
  old_stored out one none e =
      let parts = none_append (archive_rules s) (back_rules s out) none in
      let current : archive_number s ≡ 0 = eqb-true (archive_number s) 0 (not-false _ parts.1.0) in
      let long : length s ≡ 18 = eqb-true (length s) 18 (not-false _ parts.0.0) in
      let front : field s 0 17 ≡ old_bytes s = field_take s 0 17 (omega arith) ∙ ap (take 17) (sym (new_again parts.0 current) ∙ kind_0 (card_of s)) ∙ take_at (card_bytes (card_of s)) (0 ∷ []) 17 (length_card (card_of s)) in
      e ∙ ap (sets out 0) front ∙ form_over 17 (old_bytes s) out _ (length_card (card_of s)) refl parts.1.1.0
