-- Which days each month has, in the request's words, for every year; no month has more than 31.
-- Assumes nothing.
use mathlib.Core.Path.{◌≡◌, refl, ap}
use mathlib.Core.Bool.{Bool, true, false, cond, ◌||◌}
use Prim.Native.Nat.{ℕ, ◌+◌, ◌%◌, ◌≤◌}
use native.Mathlib.Omega.{arith}
use lib.Dec.{lit≤, eqb}
use borrow.Author.Tests.{eq-eqb, ne_eqb}
use Rattle.date.specs.Months.{is_leap, days_of, RealMonths}

february_is : (b c : Bool) → b ≡ c → ◌≡◌ {A = ℕ} (cond b 29 28) (cond c 29 28)
february_is b c = ap (λ (l : Bool). cond l 29 28)

pub real_months : RealMonths days_of
real_months =
    record {
      thirty = λ year. (refl, (refl, (refl, (refl, tt))));
      leap = λ year h. february_is _ true (eq-eqb _ _ h);
      common = λ year h. february_is _ false (ne_eqb _ _ (λ (e : (2000 + year) % 4 ≡ 0). omega arith));
      others = λ year. (refl, (refl, (refl, (refl, (refl, (refl, (refl, tt)))))));
    }

choose_most : (a b l : Bool) → cond a 30 (cond b (cond l 29 28) 31) ≤ 31
choose_most true b l = lit≤ tt
choose_most false true true = lit≤ tt
choose_most false true false = lit≤ tt
choose_most false false l = lit≤ tt

pub days_most : (year month : ℕ) → days_of year month ≤ 31
days_most year month = choose_most (eqb month 4 || eqb month 6 || eqb month 9 || eqb month 11) (eqb month 2) (is_leap year)
