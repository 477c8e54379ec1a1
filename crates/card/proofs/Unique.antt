-- No second answer would do, for each public function.
-- Assumes nothing.
use mathlib.Core.Path.{sym, ◌∙◌}
use mathlib.Core.List.{List}
use Prim.Native.Nat.{ℕ}
use Rattle.wire.specs.Unique.{Unique}
use Rattle.wire.specs.Writes.{Written}
use Rattle.wire.proofs.Writes.{writes_once}
use Rattle.card.proofs.fields.first_bytes.Reads as first-bytes
use Rattle.card.proofs.fields.fields_of.Reads as fields-of
use Rattle.card.proofs.fields.other_length.Reads as other_length
use Rattle.card.proofs.fields.judge_fields.Reads as judge-fields
use Rattle.card.proofs.fields.card_from.Reads as card-from
use Rattle.card.proofs.fields.judge_card.Reads as judge-card
use Rattle.card.proofs.fields.too_small.Reads as too_small
use Rattle.card.proofs.fields.field_values.Reads as field-values
use Rattle.card.proofs.forms.field_at.Reads as field-at
use Rattle.card.proofs.forms.read_fields.Reads as read-fields
use Rattle.card.proofs.forms.write_fields.Reads as write-fields
use Rattle.card.proofs.fault_of.Reads as fault-of
use Rattle.card.proofs.read_card.Reads as read-card
use Rattle.card.proofs.write_card.Reads as write-card
use Rattle.card.proofs.CardCardForm.widths.Reads as card-widths

pub first_bytes_unique : Unique first-bytes.Post (λ κs r s. r)
first_bytes_unique κs a r r' s s' e e' = e ∙ sym e'

pub fields_of_unique : Unique fields-of.Post (λ κs r s. r)
fields_of_unique κs a r r' s s' e e' = e ∙ sym e'

pub other_length_unique : Unique other_length.Post (λ κs r s. r)
other_length_unique κs a r r' s s' e e' = e ∙ sym e'

pub judge_fields_unique : Unique judge-fields.Post (λ κs r s. r)
judge_fields_unique κs a r r' s s' e e' = e ∙ sym e'

pub card_from_unique : Unique card-from.Post (λ κs r s. r)
card_from_unique κs a r r' s s' e e' = e ∙ sym e'

pub judge_card_unique : Unique judge-card.Post (λ κs r s. r)
judge_card_unique κs a r r' s s' e e' = e ∙ sym e'

pub too_small_unique : Unique too_small.Post (λ κs r s. r)
too_small_unique κs a r r' s s' e e' = e ∙ sym e'

pub field_values_unique : Unique field-values.Post (λ κs r s. r)
field_values_unique κs a r r' s s' e e' = e ∙ sym e'

pub fault_of_unique : Unique fault-of.Post (λ κs r s. r)
fault_of_unique κs a r r' s s' e e' = e ∙ sym e'

pub read_card_unique : Unique read-card.Post (λ κs r s. r)
read_card_unique κs a r r' s s' e e' = e ∙ sym e'

pub write_card_unique : Unique {Y = λ κs. Written × List ℕ} write-card.Post (λ κs r s. (r, s.1.0.now))
write_card_unique κs a r r' s s' w w' = writes_once _ _ _ _ _ _ _ w w'

pub field_at_unique : (F : _) (laws : _) (form : _) (dict : _) → Unique (field-at.Post F laws form dict) (λ κs r s. r)
field_at_unique F laws form dict κs a r r' s s' e e' = e ∙ sym e'

pub read_fields_unique : (F : _) (laws : _) (form : _) (dict : _) → Unique (read-fields.Post F laws form dict) (λ κs r s. r)
read_fields_unique F laws form dict κs a r r' s s' e e' = e ∙ sym e'

pub write_fields_unique : (F : _) (laws : _) (form : _) (dict : _) → Unique {Y = λ κs. Written × List ℕ} (write-fields.Post F laws form dict) (λ κs r s. (r, s.1.1.0.now))
write_fields_unique F laws form dict κs a r r' s s' w w' = writes_once _ _ _ _ _ _ _ w w'

-- conversions, and the methods of traits, as each impl has them
pub card_widths_unique : Unique card-widths.Post (λ κs r s. r.now)
card_widths_unique κs a r r' s s' e e' = e ∙ sym e'
