-- `modbus_ascii::hex::all_digits` meets its contract. The loop's invariant: with the characters that are left, the answer so far is the answer.
use mathlib.Core.Path.{◌≡◌}
use mathlib.Core.Bool.{◌&&◌}
use lib.ListN.{drop}
use Rattle.modbus_ascii.specs.Hex.{all_digits}
use Rattle.modbus_ascii.proofs.hex.all_digits.Given as goal

abbrev pub invariant-loop-c : goal.invariant-loop-c
invariant-loop-c l = (l.good && all_digits (drop l.c-index l.s)) ≡ all_digits l.s
