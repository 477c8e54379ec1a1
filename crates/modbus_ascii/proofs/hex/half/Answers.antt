-- `modbus_ascii::hex::half` meets its contract.
use native.Mathlib.Omega.{arith}
use Rattle.wire.proofs.Digits.{low_digit, high_digit}
use Rattle.modbus_ascii.proofs.hex.half.Goals as goal

pub returns-then-d-lt10 : goal.returns-then-d-lt10
returns-then-d-lt10 c = low_digit _ c.if-d-lt10.true

pub returns-else-d-lt10 : goal.returns-else-d-lt10
returns-else-d-lt10 c = omega (arith, high_digit _ c.if-d-lt10.false c.requires)
