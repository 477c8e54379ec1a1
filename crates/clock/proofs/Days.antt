-- The days of the first months and years: they rise, and they are those of common years and the leap days that have passed.
-- Assumes nothing.
use mathlib.Core.Path.{◌≡◌, refl, sym, ap, ap₂, ◌∙◌}
use mathlib.Core.Bool.{Bool, true, false, cond}
use Prim.Native.Nat.{ℕ, zero, suc, ◌+◌, ◌-◌, ◌*◌, ◌/◌, ◌%◌, ◌≤◌, ◌<◌}
use native.Mathlib.Omega.{arith}
use lib.Dec.{ltb, eqb}
use borrow.Author.Tests.{eqb-true, eqb-false, ne_eqb, lt-ltb, le-ltb}
use Rattle.date.specs.Months.{is_leap, days_of}
use Rattle.clock.specs.Seconds.{days_of_months, days_of_years}

pub months_rise : (year n : ℕ) → days_of_months year n ≤ days_of_months year (suc n)
unfolding days_of_months
months_rise year n = omega arith

pub years_rise : (n : ℕ) → days_of_years n ≤ days_of_years (suc n)
unfolding days_of_years
years_rise n = omega arith

-- the leap day of a year
abbrev leap_day : ℕ → ℕ
leap_day year = cond (is_leap year) 1 0

to_march : (l : Bool) → ◌≡◌ {A = ℕ} (31 + cond l 29 28) (59 + cond l 1 0)
to_march true = refl
to_march false = refl

-- a month that is not February has the same days in every year
other_month : (year month : ℕ) → eqb month 2 ≡ false → days_of year month ≡ days_of 1 month
other_month year month e = rw e refl

-- a year has its leap day from the end of February on
months_beyond : (year n : ℕ) → days_of_months year n ≡ days_of_months 1 n + cond (ltb 1 n) (leap_day year) 0
unfolding days_of_months
months_beyond year zero = refl
months_beyond year (suc zero) = refl
months_beyond year (suc (suc zero)) = to_march (is_leap year)
months_beyond year (suc (suc (suc n))) =
    let m = suc (suc (suc n)) in
    let same = other_month year m (ne_eqb m 2 (λ (e : m ≡ 2). omega arith)) in
    let before = months_beyond year (suc (suc n)) ∙ ap (λ (b : Bool). days_of_months 1 (suc (suc n)) + cond b (leap_day year) 0) (lt-ltb 1 (suc (suc n)) (omega arith)) in
    let past = lt-ltb 1 m (omega arith) in
    ap₂ (λ (x y : ℕ). x + y) before same
    ∙ turned (days_of_months 1 (suc (suc n))) (leap_day year) (days_of 1 m)
    ∙ sym (ap (λ (b : Bool). days_of_months 1 (suc (suc n)) + days_of 1 m + cond b (leap_day year) 0) past)
  where
    turned : (a b c : ℕ) → a + b + c ≡ a + c + b
    turned a b c = omega arith

-- and with it the count of leap years goes on
quarters : (year : ℕ) → (year + 4) / 4 ≡ (year + 3) / 4 + leap_day year
quarters year = go (is_leap year) refl
  where
    go : (l : Bool) → is_leap year ≡ l → (year + 4) / 4 ≡ (year + 3) / 4 + cond l 1 0
    go true e = let h : (2000 + year) % 4 ≡ 0 = eqb-true ((2000 + year) % 4) 0 e in omega arith
    go false e = let h : (2000 + year) % 4 ≡ 0 → ⊥ = eqb-false ((2000 + year) % 4) 0 e in omega arith

-- so the leap days of the years before
pub years_closed : (year : ℕ) → days_of_years year ≡ year * 365 + (year + 3) / 4
unfolding days_of_months days_of_years
years_closed zero = refl
years_closed (suc year) =
    let own : days_of_months year 12 ≡ 365 + leap_day year = months_beyond year 12 in
    omega (arith, years_closed year, own, quarters year)

-- each 29 February before a month is a day more than by years of 365 days
pub to_february : (year month : ℕ) → month ≤ 2 → year * 365 + (year + 3) / 4 + days_of_months 1 (month - 1) ≡ days_of_years year + days_of_months year (month - 1)
to_february year month h =
    let own = months_beyond year (month - 1) ∙ ap (λ (b : Bool). days_of_months 1 (month - 1) + cond b (leap_day year) 0) (le-ltb 1 (month - 1) (omega arith)) in
    omega (arith, years_closed year, own)

pub from_march : (year month : ℕ) → 2 < month → year * 365 + (year + 4) / 4 + days_of_months 1 (month - 1) ≡ days_of_years year + days_of_months year (month - 1)
from_march year month h =
    let own = months_beyond year (month - 1) ∙ ap (λ (b : Bool). days_of_months 1 (month - 1) + cond b (leap_day year) 0) (lt-ltb 1 (month - 1) (omega arith)) in
    omega (arith, years_closed year, own, quarters year)
