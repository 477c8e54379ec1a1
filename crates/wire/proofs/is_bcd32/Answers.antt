-- `wire::is_bcd32` meets its contract.
use mathlib.Core.Path.{◌≡◌, refl}
use mathlib.Core.Bool.{Bool, true, false, ◌&&◌}
use Rattle.wire.specs.Numbers.{is_bcd, field}
use Rattle.wire.proofs.is_bcd32.Goals as goal

regroup : (a b c d : Bool) → (((a && b) && c) && d) ≡ (a && (b && (c && (d && true))))
regroup true true true true = refl
regroup true true true false = refl
regroup true true false d = refl
regroup true false c d = refl
regroup false b c d = refl

pub returns : goal.returns
unfolding is_bcd field
returns c =
    cc (regroup c.is_bcd.result c.is_bcd-2.result c.is_bcd-3.result c.is_bcd-4.result)
