-- Reading a card of any form: 50 to 54, and then what the form refuses of its own fields; in the order of their numbers.
-- Assumes nothing.
use Rattle.std.specs.Prelude.{ℕ, ◌/◌, ◌^◌, ◌≡◌, Bool, not, ◌&&◌, ◌||◌, List, [], ◌∷◌, ◌++◌, eqb, ltb, length, Result, Ok, Err}
use Rattle.wire.specs.Refusal.{Rule, ◌when◌, first, NoneHolds}
use Rattle.wire.specs.Answer.{judged}
use Rattle.wire.specs.Numbered.{number_of as refusal_number}
use Rattle.wire.specs.Told.{Told, accepted, refused}
use Rattle.date.specs.Date.{date_bytes, is_date}
use Rattle.date.specs.declared.DateTime.{DateTime}
use Rattle.reading.specs.Reading.{number_of, bits_of, kind_of, width_of}
use Rattle.reading.specs.declared.Kind.{Kind}
use Rattle.card.specs.Layout.{fields_in, card_of, Form, own_of, spare_of, card_form}
use Rattle.wire.specs.declared.refusals.Refusal.{Refusal}
use Rattle.card.specs.declared.Card.{Card}
use Rattle.card.specs.declared.fields.Fields.{Fields}

-- 50 card not of its form's length
abbrev pub other_length : ℕ → List ℕ → Bool
other_length size s = not (eqb (length s) size)

-- 51 spare bits not 0
abbrev pub spare_set : Form → List ℕ → Bool
spare_set f s = not (eqb (spare_of f s) 0)

-- 52 address 0 or above 99,999,999
abbrev pub bad_address : ℕ → Bool
bad_address address = eqb address 0 || ltb 99999999 address

-- 53 date out of range; no date has no place on a card
abbrev pub bad_time : DateTime → Bool
bad_time time = not (is_date time)

-- 54 32-bit kind with upper half not 0
abbrev pub upper_half_set : Kind → ℕ → Bool
upper_half_set kind bits = eqb (width_of kind) 4 && not (eqb (bits / 2 ^ 32) 0)

-- of the ten fields
abbrev pub field_rules : Fields → List Rule
field_rules f =
    52 when bad_address f.address
    ∷ 53 when bad_time f.time
    ∷ 54 when upper_half_set f.kind f.bits
    ∷ []

-- "Order is by number"
abbrev pub later_rules : Form → List ℕ → Fields → List Rule
later_rules f s fields = 51 when spare_set f s ∷ (field_rules fields ++ f.rules (own_of f s))

abbrev pub form_rules : Form → List ℕ → List Rule
form_rules f s = 50 when other_length f.size s ∷ later_rules f s (fields_in s)

-- those of them that every form has, and what they leave: the ten fields
abbrev pub shared_rules : Form → List ℕ → List Rule
shared_rules f s = 50 when other_length f.size s ∷ 51 when spare_set f s ∷ field_rules (fields_in s)

abbrev pub read_fields : Form → List ℕ → Result Fields Refusal
read_fields f s = judged (fields_in s) (first (shared_rules f s))

-- what reading bytes of a form says: nothing is refused, and this is the card, with these values of its own fields
pub record Reads (f : Form) (s : List ℕ) (c : Card) (own : List ℕ) : Type 0 where
  pub good : NoneHolds (form_rules f s)
  pub card : card_of s ≡ c
  pub further : own_of f s ≡ own

-- ---- the card of 17 bytes
abbrev pub read_rules : List ℕ → List Rule
read_rules s = form_rules card_form s

unfoldable pub read_card : List ℕ → Result Card Refusal
read_card s = judged (card_of s) (first (read_rules s))

-- address, channel, the six numbers of the time, kind, bits
abbrev pub card_numbers : Card → List ℕ
card_numbers c = c.address ∷ c.channel ∷ (date_bytes c.time ++ (number_of (kind_of c.value) ∷ bits_of c.value ∷ []))

abbrev pub told_card_read : Result Card Refusal → Told
told_card_read (Ok c) = accepted (card_numbers c)
told_card_read (Err e) = refused (refusal_number e)
