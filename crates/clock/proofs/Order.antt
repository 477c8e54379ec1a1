-- Demand 1 of the number that is told.
-- Assumes nothing.
use mathlib.Core.Path.{refl}
use Rattle.wire.specs.Refusal.{FirstInOrder}
use Rattle.wire.proofs.Answer.{named_first}
use Rattle.date.specs.declared.DateTime.{DateTime}
use Rattle.clock.specs.Clock.{clock_rules, seconds_apart, clock_difference, told_difference}
use Rattle.wire.specs.Answer.{refuse}
use Rattle.std.specs.Prelude.{Ok}

pub clock_difference_first : (meter cabinet : DateTime) → FirstInOrder (clock_rules meter cabinet) (told_difference (clock_difference meter cabinet)).number
clock_difference_first meter cabinet =
    named_first refuse (Ok (seconds_apart meter cabinet)) (λ d. (told_difference d).number) (λ n. refl) (clock_rules meter cabinet) tt refl
