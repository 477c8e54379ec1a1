-- `wire::front` meets its contract.
use mathlib.Core.Path.{sym}
use native.Mathlib.Nat.{le_of_lt}
use lib.Seq.{length-take-le, take_all}
use Rattle.wire.proofs.front.Goals as goal

pub slice_bounds-result-end : goal.slice_bounds-result-end
slice_bounds-result-end c = sym (length-take-le _ _ c.if-n-s.true)

pub returns-else-n-s : goal.returns-else-n-s
returns-else-n-s c = sym (take_all _ _ (le_of_lt c.if-n-s.false))
