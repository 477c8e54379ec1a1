-- Both ends are reached, and zero; no date of the meter's is 13 beside whatever the cabinet has.
-- Assumes nothing.
use mathlib.Core.Path.{◌≡◌, refl}
use mathlib.Core.List.{[], ◌∷◌}
use Rattle.wire.specs.Numbered.{refusal}
use Rattle.wire.specs.Refusal.{pick}
use Rattle.wire.specs.Told.{AllHold, ◌gives◌, accepted, refused}
use Rattle.date.specs.Date.{is_date, no_date}
use Rattle.date.specs.declared.DateTime.{DateTime}
use Rattle.clock.specs.Seconds.{days_of_months, days_of_years, seconds_since2000, first_second, last_second}
use Rattle.clock.specs.Clock.{clock_difference, told_difference}

pub last_second_lem : seconds_since2000 last_second ≡ 3155759999
unfolding days_of_months days_of_years
last_second_lem = refl

pub ends :
    AllHold
    (told_difference (clock_difference last_second first_second) gives accepted (0 ∷ 3155759999 ∷ [])
    ∷ told_difference (clock_difference first_second last_second) gives accepted (1 ∷ 3155759999 ∷ [])
    ∷ told_difference (clock_difference first_second first_second) gives accepted (0 ∷ 0 ∷ [])
    ∷ told_difference (clock_difference last_second last_second) gives accepted (0 ∷ 0 ∷ [])
    ∷ told_difference (clock_difference first_second no_date) gives refused 53
    ∷ [])
unfolding days_of_months days_of_years is_date pick refusal
ends = (refl, (refl, (refl, (refl, (refl, tt)))))

pub no_clock_lem : (cabinet : DateTime) → told_difference (clock_difference no_date cabinet) ≡ refused 13
unfolding is_date pick refusal
no_clock_lem cabinet = refl
