-- DATETIME, and no date.
-- Assumes nothing.
use Rattle.std.specs.Prelude.{ℕ, ◌≤◌, Bool, ◌&&◌, List, [], ◌∷◌, leb, eqb, get_or}
use Rattle.date.specs.Months.{days_of}
use Rattle.date.specs.declared.DateTime.{DateTime}

-- its six bytes, and the six numbers that bytes say
abbrev pub date_bytes : DateTime → List ℕ
date_bytes d = d.year ∷ d.month ∷ d.day ∷ d.hour ∷ d.minute ∷ d.second ∷ []

abbrev pub date_of : List ℕ → DateTime
date_of bs =
    record { year = get_or bs 0 0; month = get_or bs 1 0; day = get_or bs 2 0; hour = get_or bs 3 0; minute = get_or bs 4 0; second = get_or bs 5 0 }

abbrev pub within : ℕ → ℕ → ℕ → Bool
within lowest n highest = leb lowest n && leb n highest

-- "DATETIME: year 0..99 (from 2000), month 1..12" .. "hour 0..23, minute and second 0..59."; "A date is from now on a real one": its month has the day
unfoldable pub is_date : DateTime → Bool
is_date d =
    within 0 d.year 99
    && within 1 d.month 12
    && within 1 d.day (days_of d.year d.month)
    && within 0 d.hour 23
    && within 0 d.minute 59
    && within 0 d.second 59

-- another day of its month, at the same time
abbrev pub on_day : DateTime → ℕ → DateTime
on_day d day = record { year = d.year; month = d.month; day = day; hour = d.hour; minute = d.minute; second = d.second }

-- "Six bytes FF mean no date"
abbrev pub no_date : DateTime
no_date = record { year = 255; month = 255; day = 255; hour = 255; minute = 255; second = 255 }

unfoldable pub is_no_date : DateTime → Bool
is_no_date d =
    eqb d.year 255
    && eqb d.month 255
    && eqb d.day 255
    && eqb d.hour 255
    && eqb d.minute 255
    && eqb d.second 255

-- no number of a date is above its range
pub record Ranges (d : DateTime) : Type 0 where
  pub year : d.year ≤ 99
  pub month : d.month ≤ 12
  pub day : d.day ≤ 31
  pub hour : d.hour ≤ 23
  pub minute : d.minute ≤ 59
  pub second : d.second ≤ 59
