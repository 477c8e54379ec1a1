-- `clock::common_days` meets its contract.
use mathlib.Core.Path.{sym, ap}
use mathlib.Core.Logic.{◌≢◌}
use Prim.Native.Nat.{ℕ, ◌-◌, ◌≤◌}
use native.Mathlib.Omega.{arith}
use Rattle.clock.specs.Seconds.{days_of_months}
use Rattle.clock.proofs.common_days.Goals as goal

abbrev before : ℕ → ℕ
before month = days_of_months 1 (month - 1)

-- what is none of the twelve months is no month

not_first : (n : ℕ) → 1 ≤ n → n ≢ 1 → n ≢ 2 → n ≢ 3 → n ≢ 4 → n ≢ 5 → n ≢ 6 → 7 ≤ n
not_first n h a b c d e f = omega arith

not_last : (n : ℕ) → 7 ≤ n → n ≢ 7 → n ≢ 8 → n ≢ 9 → n ≢ 10 → n ≢ 11 → n ≢ 12 → 13 ≤ n
not_last n h a b c d e f = omega arith

pub returns-in-1 : goal.returns-in-1
unfolding days_of_months
returns-in-1 c = sym (ap before c.in-1.is)

pub returns-in-2 : goal.returns-in-2
unfolding days_of_months
returns-in-2 c = sym (ap before c.in-2.is)

pub returns-in-3 : goal.returns-in-3
unfolding days_of_months
returns-in-3 c = sym (ap before c.in-3.is)

pub returns-in-4 : goal.returns-in-4
unfolding days_of_months
returns-in-4 c = sym (ap before c.in-4.is)

pub returns-in-5 : goal.returns-in-5
unfolding days_of_months
returns-in-5 c = sym (ap before c.in-5.is)

pub returns-in-6 : goal.returns-in-6
unfolding days_of_months
returns-in-6 c = sym (ap before c.in-6.is)

pub returns-in-7 : goal.returns-in-7
unfolding days_of_months
returns-in-7 c = sym (ap before c.in-7.is)

pub returns-in-8 : goal.returns-in-8
unfolding days_of_months
returns-in-8 c = sym (ap before c.in-8.is)

pub returns-in-9 : goal.returns-in-9
unfolding days_of_months
returns-in-9 c = sym (ap before c.in-9.is)

pub returns-in-10 : goal.returns-in-10
unfolding days_of_months
returns-in-10 c = sym (ap before c.in-10.is)

pub returns-in-11 : goal.returns-in-11
unfolding days_of_months
returns-in-11 c = sym (ap before c.in-11.is)

pub returns-in-12 : goal.returns-in-12
unfolding days_of_months
returns-in-12 c = sym (ap before c.in-12.is)
