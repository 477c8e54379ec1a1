-- A date written reads back, and six bytes read are written again; no date is none; which days are dates.
-- Assumes nothing.
use mathlib.Core.Path.{◌≡◌, refl, ap, ◌∙◌}
use mathlib.Core.Bool.{Bool, true, false, ◌&&◌}
use mathlib.Core.List.{List}
use Prim.Native.Nat.{ℕ, ◌≤◌}
use native.Mathlib.Omega.{arith}
use lib.Dec.{eqb, leb}
use borrow.Author.Tests.{eqb-true, ne_eqb, leb-true}
use Rattle.wire.proofs.Bools.{and_both, no_and}
use Rattle.wire.specs.Numbers.{field}
use Rattle.date.specs.Months.{days_of}
use Rattle.date.specs.Date.{date_bytes, date_of, within, is_date, on_day, no_date, is_no_date, Ranges}
use Rattle.date.specs.declared.DateTime.{DateTime}
use Rattle.date.proofs.Months.{days_most}

pub date_reads_back : (d : DateTime) → date_of (date_bytes d) ≡ d
date_reads_back d = refl

pub date_writes_again : (s : List ℕ) (at : ℕ) → date_bytes (date_of (field s at 6)) ≡ field s at 6
unfolding field
date_writes_again s at = refl

-- six bytes FF are no date
pub no_date_lem : is_date no_date ≡ false
unfolding is_date
no_date_lem = refl

pub no_date_is : is_no_date no_date ≡ true
unfolding is_no_date
no_date_is = refl

pub month_12 : is_date (record { year = 0; month = 12; day = 31; hour = 23; minute = 59; second = 59 }) ≡ true
unfolding is_date
month_12 = refl

pub month_13 : is_date (record { year = 0; month = 13; day = 31; hour = 23; minute = 59; second = 59 }) ≡ false
unfolding is_date
month_13 = refl

all_six : (a b c d e f : Bool) → (a && b && c && d && e && f) ≡ true → (a ≡ true) × (b ≡ true) × (c ≡ true) × (d ≡ true) × (e ≡ true) × (f ≡ true)
all_six a b c d e f h =
    let t₅ = and_both (a && b && c && d && e) f h in
    let t₄ = and_both (a && b && c && d) e t₅.0 in
    let t₃ = and_both (a && b && c) d t₄.0 in
    let t₂ = and_both (a && b) c t₃.0 in
    let t₁ = and_both a b t₂.0 in
    (t₁.0, t₁.1, t₂.1, t₃.1, t₄.1, t₅.1)

and_true : (a b : Bool) → b ≡ true → (a && b) ≡ a
and_true true b e = e
and_true false b e = refl

the_third : (a b c d e f : Bool) → a ≡ true → b ≡ true → d ≡ true → e ≡ true → f ≡ true → (a && b && c && d && e && f) ≡ c
the_third a b c d e f p q r s t = and_true _ f t ∙ and_true _ e s ∙ and_true _ d r ∙ ap (λ (x : Bool). x && c) (and_true a b q ∙ p)

-- what the tests of a date say, one by one
pub all_tests : (d : DateTime) → is_date d ≡ true
    → (within 0 d.year 99 ≡ true) × (within 1 d.month 12 ≡ true) × (within 1 d.day (days_of d.year d.month) ≡ true)
    × (within 0 d.hour 23 ≡ true) × (within 0 d.minute 59 ≡ true) × (within 0 d.second 59 ≡ true)
unfolding is_date
all_tests d e = all_six _ _ _ _ _ _ e

-- in the month of a date, exactly the days that the month has are dates
pub days_of_its_month : (d : DateTime) (day : ℕ) → is_date d ≡ true → is_date (on_day d day) ≡ within 1 day (days_of d.year d.month)
unfolding is_date
days_of_its_month d day e =
    let t = all_tests d e in
    the_third _ _ _ _ _ _ t.0 t.1 t.3 t.4 t.5

pub inside : (lowest n highest : ℕ) → within lowest n highest ≡ true → (lowest ≤ n) × (n ≤ highest)
inside lowest n highest e =
    let t = and_both (leb lowest n) (leb n highest) e in
    (leb-true lowest n t.0, leb-true n highest t.1)

-- a date's numbers are within their ranges, by which callers know it
pub date_ranges : (d : DateTime) → is_date d ≡ true → Ranges d
date_ranges d e =
    let t = all_tests d e in
    let day = (inside 1 d.day (days_of d.year d.month) t.2).1 in
    let days = days_most d.year d.month in
    record {
      year = (inside 0 d.year 99 t.0).1;
      month = (inside 1 d.month 12 t.1).1;
      day = omega (arith, day, days);
      hour = (inside 0 d.hour 23 t.3).1;
      minute = (inside 0 d.minute 59 t.4).1;
      second = (inside 0 d.second 59 t.5).1;
    }

-- a date is not no date
pub date_some : (d : DateTime) → is_date d ≡ true → is_no_date d ≡ false
unfolding is_no_date
date_some d e =
    let low = (date_ranges d e).year in
    let not_255 : eqb d.year 255 ≡ false = ne_eqb d.year 255 (λ (h : d.year ≡ 255). omega arith) in
    no_and _ _ (no_and _ _ (no_and _ _ (no_and _ _ (no_and _ _ not_255))))

-- no date is six bytes FF
pub no_date_bytes : (d : DateTime) → is_no_date d ≡ true → date_bytes no_date ≡ date_bytes d
unfolding is_no_date
no_date_bytes d e =
    let t = all_six (eqb d.year 255) (eqb d.month 255) (eqb d.day 255) (eqb d.hour 255) (eqb d.minute 255) (eqb d.second 255) e in
    rw (eqb-true d.year 255 t.0, eqb-true d.month 255 t.1, eqb-true d.day 255 t.2, eqb-true d.hour 255 t.3, eqb-true d.minute 255 t.4, eqb-true d.second 255 t.5) refl
