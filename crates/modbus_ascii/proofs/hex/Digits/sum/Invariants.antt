-- `modbus_ascii::hex::Digits::sum` meets its contract. The loop's invariant: the bytes that are left, after the sum as it is, give the answer.
use mathlib.Core.Path.{◌≡◌}
use Prim.Native.Nat.{◌<◌}
use lib.ListN.{drop}
use Rattle.checksum.specs.Sums.{sum_from}
use Rattle.modbus_ascii.specs.Hex.{of_hex}
use Rattle.modbus_ascii.proofs.hex.Digits.sum.Given as goal

abbrev pub invariant-loop-i : goal.invariant-loop-i
invariant-loop-i l = (l.c < 256) × (sum_from l.c (drop l.i (of_hex l.self.chars.now)) ≡ sum_from l.from (of_hex l.self.chars.now))
