-- No second answer would do.
-- Assumes nothing.
use mathlib.Core.Path.{sym, ◌∙◌}
use Rattle.wire.specs.Unique.{Unique}
use Rattle.clock.proofs.clock_difference.Reads as clock-difference

pub clock_difference_unique : Unique clock-difference.Post (λ κs r s. r)
clock_difference_unique κs a r r' s s' e e' = e ∙ sym e'
