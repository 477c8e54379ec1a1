-- Seconds since 2000 began, and the order in which dates are written.
-- Assumes nothing.
use Rattle.std.specs.Prelude.{ℕ, zero, suc, ◌+◌, ◌-◌, ◌*◌, Bool, false, ◌&&◌, ◌||◌, List, [], ◌∷◌, ltb, eqb}
use Rattle.date.specs.Months.{days_of}
use Rattle.date.specs.declared.DateTime.{DateTime}

-- the days of the first n months of a year
unfoldable pub days_of_months : ℕ → ℕ → ℕ
days_of_months year zero = 0
days_of_months year (suc n) = days_of_months year n + days_of year (suc n)

-- the days of the first n years from 2000 on, twelve months each
unfoldable pub days_of_years : ℕ → ℕ
days_of_years zero = 0
days_of_years (suc n) = days_of_years n + days_of_months n 12

-- the days before the year, before the month and before the day
abbrev pub days_before : DateTime → ℕ
days_before d = days_of_years d.year + days_of_months d.year (d.month - 1) + (d.day - 1)

-- "seconds since 2000", "with no summer time or leap seconds": each day has 86,400
abbrev pub seconds_since2000 : DateTime → ℕ
seconds_since2000 d = days_before d * 86400 + d.hour * 3600 + d.minute * 60 + d.second

-- which of two comes first in the written order: the first number that differs says it
abbrev pub is_before : List ℕ → List ℕ → Bool
is_before [] ys = false
is_before (x ∷ xs) [] = false
is_before (x ∷ xs) (y ∷ ys) = ltb x y || (eqb x y && is_before xs ys)

-- the first second of 2000, and the last of 2099
abbrev pub first_second : DateTime
first_second = record { year = 0; month = 1; day = 1; hour = 0; minute = 0; second = 0 }

abbrev pub last_second : DateTime
last_second = record { year = 99; month = 12; day = 31; hour = 23; minute = 59; second = 59 }
