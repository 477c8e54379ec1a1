-- How far off the meter's clock is.
-- Assumes nothing.
use Rattle.std.specs.Prelude.{Bool, cond, not, List, [], ◌∷◌, ℤ, pos, ◌-ℤ◌, nat_abs, Result, Ok, Err}
use Rattle.std.specs.Int.Signed.{non_neg}
use Rattle.wire.specs.Refusal.{Rule, ◌when◌, first}
use Rattle.wire.specs.Answer.{judged}
use Rattle.wire.specs.Told.{Told, accepted, refused}
use Rattle.date.specs.Date.{is_date}
use Rattle.date.specs.declared.DateTime.{DateTime}
use Rattle.clock.specs.Seconds.{seconds_since2000}
use Rattle.wire.specs.Numbered.{number_of}
use Rattle.wire.specs.declared.refusals.Refusal.{Refusal}

-- 13 "for the meter's date, no date included"
abbrev pub bad_meter : DateTime → Bool
bad_meter meter = not (is_date meter)

-- 53 "for the cabinet's"
abbrev pub bad_cabinet : DateTime → Bool
bad_cabinet cabinet = not (is_date cabinet)

-- "Both are real dates by W-202"; "Refusals: 13 for the meter's date, no date included, then 53 for the cabinet's."
abbrev pub clock_rules : DateTime → DateTime → List Rule
clock_rules meter cabinet = 13 when bad_meter meter ∷ 53 when bad_cabinet cabinet ∷ []

-- "the meter's date less the cabinet's, in seconds, negative when the meter is slow"
abbrev pub seconds_apart : DateTime → DateTime → ℤ
seconds_apart meter cabinet = pos (seconds_since2000 meter) -ℤ pos (seconds_since2000 cabinet)

abbrev pub clock_difference : DateTime → DateTime → Result ℤ Refusal
clock_difference meter cabinet = judged (seconds_apart meter cabinet) (first (clock_rules meter cabinet))

-- its sign, 1 for negative, and its size
abbrev pub told_difference : Result ℤ Refusal → Told
told_difference (Ok z) = accepted (cond (non_neg z) 0 1 ∷ nat_abs z ∷ [])
told_difference (Err e) = refused (number_of e)
