-- 01's edge and those beside it, by computation; and the bytes of the card that 01 prints.
-- Assumes nothing.
use mathlib.Core.Path.{◌≡◌, refl}
use Rattle.wire.specs.Numbered.{refusal}
use Rattle.wire.specs.Numbers.{digits, number, field}
use Rattle.wire.specs.Refusal.{pick}
use Rattle.wire.specs.Told.{AllHold}
use Rattle.bits.specs.Bits.{bits, of_bits, bits_in, bytes_of}
use Rattle.bits.specs.Fields.{joined, values_from}
use Rattle.date.specs.Date.{is_date}
use Rattle.card.specs.Layout.{field_of, after_fields, card_bytes}
use Rattle.card.specs.Reading.{read_card}
use Rattle.card.specs.Edges.{printed, changed, card_edges, card_beside}

pub card_edges_lem : AllHold card_edges
unfolding digits number field pick bits of_bits bits_in values_from is_date field_of after_fields read_card refusal
card_edges_lem = (refl, tt)

pub card_beside_lem : AllHold card_beside
unfolding digits number field pick bits of_bits bits_in bytes_of joined values_from is_date card_bytes field_of after_fields read_card refusal
card_beside_lem = (refl, (refl, (refl, (refl, (refl, (refl, (refl, (refl, (refl, (refl, (refl, tt)))))))))))

pub printed_card : card_bytes (changed 1 1 1) ≡ printed
unfolding digits number field bits of_bits bytes_of joined card_bytes
printed_card = refl
