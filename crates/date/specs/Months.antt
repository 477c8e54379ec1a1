-- The days of each month.
-- Assumes nothing.
use Rattle.std.specs.Prelude.{ℕ, ◌+◌, ◌%◌, ◌<◌, ◌≡◌, Bool, cond, ◌||◌, [], ◌∷◌, eqb}
use Rattle.wire.specs.Each.{Each}

-- "leap years 2000 to 2099 those divisible by 4": a year is counted from 2000
abbrev pub is_leap : ℕ → Bool
is_leap year = eqb ((2000 + year) % 4) 0

-- "28 or 29 in February"
abbrev pub february : ℕ → ℕ
february year = cond (is_leap year) 29 28

-- "30 days in April, June, September and November"; the others have 01's "day 1..31"
abbrev pub days_of : ℕ → ℕ → ℕ
days_of year month = cond (eqb month 4 || eqb month 6 || eqb month 9 || eqb month 11) 30 (cond (eqb month 2) (february year) 31)

-- which days each month has, in the request's words, for every year
pub record RealMonths (days : ℕ → ℕ → ℕ) : Type 0 where
  pub thirty : (year : ℕ) → Each (λ month. days year month ≡ 30) (4 ∷ 6 ∷ 9 ∷ 11 ∷ [])
  pub leap : (year : ℕ) → (2000 + year) % 4 ≡ 0 → days year 2 ≡ 29
  pub common : (year : ℕ) → 0 < (2000 + year) % 4 → days year 2 ≡ 28
  pub others : (year : ℕ) → Each (λ month. days year month ≡ 31) (1 ∷ 3 ∷ 5 ∷ 7 ∷ 8 ∷ 10 ∷ 12 ∷ [])
