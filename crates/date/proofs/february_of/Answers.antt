-- `date::february_of` meets its contract: 4 divides 2000, so it divides the year from 2000 just where it divides the year.
use mathlib.Core.Path.{◌≡◌, sym}
use Prim.Native.Nat.{◌+◌, ◌%◌, ◌<◌}
use native.Mathlib.Omega.{arith}
use Rattle.date.proofs.Months.{real_months}
use Rattle.date.proofs.february_of.Goals as goal

pub returns-then-year-eq0 : goal.returns-then-year-eq0
returns-then-year-eq0 c =
    let divided : (2000 + c.args.year) % 4 ≡ 0 = omega (arith, c.if-year-eq0.true) in
    sym (real_months.leap _ divided)

pub returns-else-year-eq0 : goal.returns-else-year-eq0
returns-else-year-eq0 c =
    let rest : 0 < (2000 + c.args.year) % 4 = omega (arith, c.if-year-eq0.false) in
    sym (real_months.common _ rest)
