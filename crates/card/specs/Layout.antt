-- The reading card. Every form of it begins with the same ten fields; after them come the form's own, if it has any, and spare bits.
-- Assumes nothing.
use Rattle.std.specs.Prelude.{ℕ, ◌+◌, ◌-◌, ◌*◌, ◌≡◌, ◌≤◌, List, [], ◌∷◌, ◌++◌, T, length, get_or, take, drop}
use Rattle.wire.specs.Each.{Each}
use Rattle.wire.specs.Refusal.{Rule, NoneHolds, numbered}
use Rattle.bits.specs.Fields.{packed, unpacked, total, Fit}
use Rattle.date.specs.Date.{date_bytes}
use Rattle.date.specs.declared.DateTime.{DateTime}
use Rattle.reading.specs.Reading.{number_of, kind_from, reading_of, bits_of, kind_of}
use Rattle.reading.specs.declared.Kind.{Kind}
use Rattle.card.specs.declared.Card.{Card}
use Rattle.card.specs.declared.fields.Fields.{Fields}

-- "address 27, channel less one 5, year 7, month 4, day 5, hour 5, minute 6, second 6, kind 2 .. value bits 64"
abbrev pub field_widths : List ℕ
field_widths = 27 ∷ 5 ∷ 7 ∷ 4 ∷ 5 ∷ 5 ∷ 6 ∷ 6 ∷ 2 ∷ 64 ∷ []

-- the fields of a card, in that order
abbrev pub fields : Card → List ℕ
fields c =
    c.address
    ∷ (c.channel - 1)
    ∷ (date_bytes c.time ++ (number_of (kind_of c.value) ∷ bits_of c.value ∷ []))

-- and those of given bytes, each by its name
unfoldable pub field_of : ℕ → List ℕ → ℕ
field_of k s = get_or (unpacked field_widths s) k 0

abbrev pub address_of : List ℕ → ℕ
address_of s = field_of 0 s

abbrev pub channel_number : List ℕ → ℕ
channel_number s = field_of 1 s + 1

abbrev pub time_of : List ℕ → DateTime
time_of s =
    record { year = field_of 2 s; month = field_of 3 s; day = field_of 4 s; hour = field_of 5 s; minute = field_of 6 s; second = field_of 7 s }

abbrev pub value_kind : List ℕ → Kind
value_kind s = kind_from (field_of 8 s)

abbrev pub value_bits : List ℕ → ℕ
value_bits s = field_of 9 s

abbrev pub fields_in : List ℕ → Fields
fields_in s = record { address = address_of s; channel = channel_number s; time = time_of s; kind = value_kind s; bits = value_bits s }

-- the card that fields say
abbrev pub card_from : Fields → Card
card_from f = record { address = f.address; channel = f.channel; time = f.time; value = reading_of f.kind f.bits }

abbrev pub card_of : List ℕ → Card
card_of s = card_from (fields_in s)

-- ---- a form of the card: how many bytes, the widths of its own fields and of the spare bits after them, and what is refused of the own
-- fields' values
pub record Form : Type 0 where
  pub size : ℕ
  pub own : List ℕ
  pub spare : ℕ
  pub rules : List ℕ → List Rule

abbrev pub widths_of : Form → List ℕ
widths_of f = field_widths ++ (f.own ++ (f.spare ∷ []))

-- the bytes of a card and of its own fields' values; the spare bits are 0
abbrev pub form_bytes : Form → Card → List ℕ → List ℕ
form_bytes f c own = packed f.size (widths_of f) (fields c ++ (own ++ (0 ∷ [])))

-- what comes after the ten fields of given bytes: the own fields' values, and the spare bits
unfoldable pub after_fields : Form → List ℕ → List ℕ
after_fields f s = drop 10 (unpacked (widths_of f) s)

abbrev pub own_of : Form → List ℕ → List ℕ
own_of f s = take (length f.own) (after_fields f s)

abbrev pub spare_of : Form → List ℕ → ℕ
spare_of f s = get_or (after_fields f s) (length f.own) 0

-- a form that can be read again as it was written: its fields fill its bytes, and own fields' values that are not refused fit
pub record Lawful (f : Form) : Type 0 where
  pub filled : total (widths_of f) ≡ 8 * f.size
  pub numbers : (own : List ℕ) → T (numbered (f.rules own))
  pub fits : (own : List ℕ) → length own ≡ length f.own → NoneHolds (f.rules own) → Fit f.own own

-- what the code has of a form: how many bytes, which are 16 and at most 8 more, and the place of the spare bits among the fields. No field has
-- more than 64 bits
pub record Laid (f : Form) (size spare : ℕ) : Type 0 where
  pub bytes : size ≡ f.size
  pub place : spare ≡ 10 + length f.own
  pub least : 16 ≤ f.size
  pub most : f.size ≤ 24
  pub narrow : Each (λ w. w ≤ 64) (f.own ++ (f.spare ∷ []))

-- ---- the card of "17 bytes, most significant bit first": no field of its own, and "spare 5"
abbrev pub card_form : Form
card_form = record { size = 17; own = []; spare = 5; rules = λ own. [] }

unfoldable pub card_bytes : Card → List ℕ
card_bytes c = form_bytes card_form c []
