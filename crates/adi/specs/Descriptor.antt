-- The descriptor that record 0 of a file holds.
-- Assumes nothing.
use Rattle.std.specs.Prelude.{ℕ, ◌+◌, ◌*◌, Bool, not, ◌||◌, cond, List, [], ◌∷◌, eqb, ltb, length, Result, Ok, Err}
use Rattle.wire.specs.Answer.{judged}
use Rattle.wire.specs.Numbers.{of_be, field}
use Rattle.wire.specs.Refusal.{Rule, ◌when◌, first}
use Rattle.wire.specs.Told.{Told, accepted, refused}
use Rattle.adi.specs.declared.Contents.{Contents}
use Rattle.adi.specs.declared.Contents.TheVariants as C
use Rattle.adi.specs.declared.Descriptor.{Descriptor}
use Rattle.wire.specs.Numbered.{number_of}
use Rattle.wire.specs.declared.refusals.Refusal.{Refusal}

-- a 16-bit field, most significant byte first
abbrev pub word_at : List ℕ → ℕ → ℕ
word_at s at = of_be (field s at 2)

-- a 32-bit count: the low word comes first
abbrev pub count_at : List ℕ → ℕ → ℕ
count_at s at = word_at s at + word_at s (at + 2) * 65536

-- contents type: 0 events, 1 hourly, 2 daily, 3 monthly
abbrev pub contents_number : Contents → ℕ
contents_number C.Events = 0
contents_number C.Hourly = 1
contents_number C.Daily = 2
contents_number C.Monthly = 3

abbrev pub contents_from : ℕ → Contents
contents_from n = cond (eqb n 0) C.Events (cond (eqb n 1) C.Hourly (cond (eqb n 2) C.Daily C.Monthly))

abbrev pub kind_of : List ℕ → ℕ
kind_of s = word_at s 2

abbrev pub contents_of : List ℕ → ℕ
contents_of s = word_at s 8

-- what is judged before the contents type
abbrev pub no_descriptor : List ℕ → Bool
no_descriptor s = ltb (length s) 16 || not (eqb (kind_of s) 1)

-- and of the contents type by itself
abbrev pub contents_rules : ℕ → List Rule
contents_rules n = 84 when ltb 3 n ∷ []

-- 84 descriptor under 16 bytes, its type not 1 or contents type above 3
abbrev pub bad_descriptor : List ℕ → Bool
bad_descriptor s = no_descriptor s || ltb 3 (contents_of s)

abbrev pub descriptor_rules : List ℕ → List Rule
descriptor_rules s = 84 when bad_descriptor s ∷ []

-- "Also read the descriptor in record 0: six 16-bit fields and a 32-bit count, whose byte order 003 decides"
abbrev pub descriptor_of : List ℕ → Descriptor
descriptor_of s =
    record {
      length = word_at s 0;
      kind = kind_of s;
      records = word_at s 4;
      record_length = word_at s 6;
      contents = contents_from (contents_of s);
      next = word_at s 10;
      total = count_at s 12;
    }

unfoldable pub read_descriptor : List ℕ → Result Descriptor Refusal
read_descriptor s = judged (descriptor_of s) (first (descriptor_rules s))

abbrev pub told_descriptor : Result Descriptor Refusal → Told
told_descriptor (Ok d) =
    accepted (d.length ∷ d.kind ∷ d.records ∷ d.record_length ∷ contents_number d.contents ∷ d.next ∷ d.total ∷ [])
told_descriptor (Err e) = refused (number_of e)
