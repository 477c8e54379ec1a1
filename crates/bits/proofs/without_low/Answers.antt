-- `bits::without_low` meets its contract.
use mathlib.Core.Path.{sym}
use Prim.Native.Nat.{◌^◌, ◌<◌}
use native.Mathlib.Nat.{div-eq_of_lt, lt_of_lt_of_le}
use native.Mathlib.Omega.{arith}
use lib.Pow.{pow_mono}
use Rattle.bits.proofs.without_low.Goals as goal

pub returns-else-n-lt64 : goal.returns-else-n-lt64
returns-else-n-lt64 c =
    let h : c.args.v < 2 ^ 64 = omega arith in
    sym (div-eq_of_lt (lt_of_lt_of_le h (pow_mono c.if-n-lt64.false)))
