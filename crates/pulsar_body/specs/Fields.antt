-- The fields that requests and replies share, and their conditions.
-- Assumes nothing.
use Rattle.std.specs.Prelude.{ℕ, Bool, not, List, [], ◌∷◌, eqb}
use Rattle.wire.specs.Numbers.{of_le, field}
use Rattle.wire.specs.Refusal.{Rule, ◌when◌}
use Rattle.date.specs.Date.{date_of, is_date}
use Rattle.date.specs.declared.DateTime.{DateTime}
use Rattle.reading.specs.Mask.{channel_count}

-- a mask, and a date, at a body's front
abbrev pub mask_of : List ℕ → ℕ
mask_of s = of_le (field s 0 4)

abbrev pub date_in : List ℕ → DateTime
date_in s = date_of (field s 0 6)

-- 12 mask 0 (but 0 is good in an 02 reply)
abbrev pub no_channel : ℕ → Bool
no_channel mask = eqb mask 0

-- 12 not one bit in 06: "mask with exactly one bit"
abbrev pub not_one : ℕ → Bool
not_one mask = not (eqb (channel_count mask) 1)

-- 13 a date field out of range
abbrev pub not_date : DateTime → Bool
not_date d = not (is_date d)

-- the rules of one judged field: a mask, a mask with exactly one bit, or a date
abbrev pub mask_faults : ℕ → List Rule
mask_faults mask = 12 when no_channel mask ∷ []

abbrev pub one_faults : ℕ → List Rule
one_faults mask = 12 when not_one mask ∷ []

abbrev pub date_faults : DateTime → List Rule
date_faults d = 13 when not_date d ∷ []
