-- The seconds rise as dates do in their written order, to the last second of 2099.
-- Assumes nothing.
use mathlib.Core.Path.{◌≡◌, refl, sym, ap, ap₂, ◌∙◌, subst}
use mathlib.Core.Bool.{Bool, true, ◌&&◌, ◌||◌}
use Prim.Native.Nat.{ℕ, zero, suc, ◌+◌, ◌-◌, ◌*◌, ◌≤◌, ◌<◌}
use native.Mathlib.Omega.{arith}
use lib.Dec.{ltb, eqb}
use borrow.Author.Tests.{le-ltb}
use Rattle.date.specs.Months.{days_of}
use Rattle.date.specs.Date.{date_bytes, date_of, is_date}
use Rattle.date.specs.declared.DateTime.{DateTime}
use Rattle.date.proofs.Laws.{all_tests, inside}
use Rattle.clock.specs.Seconds.{days_of_months, days_of_years, seconds_since2000, is_before}
use Rattle.clock.proofs.Days.{months_rise, years_rise, years_closed}
use Rattle.clock.proofs.Places.{never_falls, ordered, alone, neither_before}

-- a month's days stand between its beginning and the next month's
month_more : (year month : ℕ) → 1 ≤ month → days_of_months year (suc month - 1) ≡ days_of_months year (month - 1) + days_of year month
unfolding days_of_months
month_more year zero h = absurd (omega arith)
month_more year (suc n) h = ap (days_of_months year) (one_less (suc n)) ∙ ap (λ (k : ℕ). days_of_months year k + days_of year (suc n)) (sym (one_less n))
  where
    one_less : (n : ℕ) → suc n - 1 ≡ n
    one_less n = omega arith

-- the seconds in the day, in the month and in the year
abbrev in_day : DateTime → ℕ
in_day d = d.hour * 3600 + (d.minute * 60 + d.second)

abbrev in_month : DateTime → ℕ
in_month d = (d.day - 1) * 86400 + in_day d

abbrev before_month : ℕ → ℕ → ℕ
before_month year month = days_of_months year (month - 1) * 86400

abbrev before_year : ℕ → ℕ
before_year year = days_of_years year * 86400

abbrev in_year : DateTime → ℕ
in_year d = before_month d.year d.month + in_month d

abbrev before_day : ℕ → ℕ
before_day day = (day - 1) * 86400

months_climb : (year n : ℕ) → before_month year n ≤ before_month year (suc n)
months_climb year n = let more = never_falls (days_of_months year) (months_rise year) (n - 1) (suc n - 1) (omega arith) in omega arith

years_climb : (n : ℕ) → before_year n ≤ before_year (suc n)
years_climb n = let more = years_rise n in omega arith

-- a date ends within its minute, hour, day, month and year
record Placed (d : DateTime) : Type 0 where
  minute : d.minute * 60 + d.second < suc d.minute * 60
  hour : in_day d < suc d.hour * 3600
  day : in_month d < before_day (suc d.day)
  month : in_year d < before_month d.year (suc d.month)
  year : before_year d.year + in_year d < before_year (suc d.year)

placed : (d : DateTime) → is_date d ≡ true → Placed d
unfolding days_of_years
placed d e =
    let t = all_tests d e in
    let m = inside 1 d.month 12 t.1 in
    let n = inside 1 d.day (days_of d.year d.month) t.2 in
    let h = (inside 0 d.hour 23 t.3).1 in
    let i = (inside 0 d.minute 59 t.4).1 in
    let s = (inside 0 d.second 59 t.5).1 in
    let own : days_of_months d.year (suc d.month - 1) ≡ days_of_months d.year (d.month - 1) + days_of d.year d.month = month_more d.year d.month m.0 in
    let all : days_of_months d.year (suc d.month - 1) ≤ days_of_months d.year 12 = never_falls (days_of_months d.year) (months_rise d.year) (suc d.month - 1) 12 (omega (arith, m.1)) in
    record {
      minute = omega arith;
      hour = omega arith;
      day = omega (arith, n.0);
      month = omega (arith, n.0, n.1);
      year = omega (arith, n.0, n.1);
    }

in_parts : (d : DateTime) → seconds_since2000 d ≡ before_year d.year + in_year d
in_parts d = omega arith

pub rising : (a b : DateTime) → is_date a ≡ true → is_date b ≡ true → ltb (seconds_since2000 a) (seconds_since2000 b) ≡ is_before (date_bytes a) (date_bytes b)
rising a b ea eb =
    let p = placed a ea in
    let q = placed b eb in
    ap₂ ltb (in_parts a) (in_parts b)
    ∙ ordered before_year years_climb a.year b.year (in_year a) (in_year b) _ p.year q.year
    (λ (e : a.year ≡ b.year). in_year_lem a b e p.month q.month
    (λ _. ordered before_day (λ n. omega arith) a.day b.day (in_day a) (in_day b) _ p.day q.day
    (λ _. ordered (λ n. n * 3600) (λ n. omega arith) a.hour b.hour (a.minute * 60 + a.second) (b.minute * 60 + b.second) _ p.hour q.hour
    (λ _. ordered (λ n. n * 60) (λ n. omega arith) a.minute b.minute a.second b.second _ p.minute q.minute
    (λ _. alone (ltb a.second b.second) (eqb a.second b.second))))))
  where
    in_year_lem : (a b : DateTime) {rest : Bool} → a.year ≡ b.year → in_year a < before_month a.year (suc a.month) → in_year b < before_month b.year (suc b.month)
        → (a.month ≡ b.month → ltb (in_month a) (in_month b) ≡ rest) → ltb (in_year a) (in_year b) ≡ (ltb a.month b.month || (eqb a.month b.month && rest))
    in_year_lem a b {rest} e p q same =
        subst (λ (y : ℕ). ltb (in_year a) (before_month y b.month + in_month b) ≡ (ltb a.month b.month || (eqb a.month b.month && rest))) e
        (ordered (before_month a.year) (months_climb a.year) a.month b.month (in_month a) (in_month b) rest p
        (subst (λ (y : ℕ). before_month y b.month + in_month b < before_month y (suc b.month)) (sym e) q) same)

-- none is later than the last second of 2099
pub seconds_most : (d : DateTime) → is_date d ≡ true → seconds_since2000 d ≤ 3155759999
seconds_most d e =
    let p = (placed d e).year in
    let y = (inside 0 d.year 99 (all_tests d e).0).1 in
    let century : before_year (suc d.year) ≤ before_year 100 = never_falls before_year years_climb (suc d.year) 100 (omega arith) in
    let all : days_of_years 100 ≡ 36525 = years_closed 100 in
    omega arith

-- two dates of the same second are one
pub one_date : (a b : DateTime) → is_date a ≡ true → is_date b ≡ true → seconds_since2000 a ≡ seconds_since2000 b → a ≡ b
one_date a b ea eb e =
    ap date_of
    (neither_before (date_bytes a) (date_bytes b) refl (sym (rising a b ea eb) ∙ le-ltb (seconds_since2000 a) (seconds_since2000 b) (omega arith))
    (sym (rising b a eb ea) ∙ le-ltb (seconds_since2000 b) (seconds_since2000 a) (omega arith)))
