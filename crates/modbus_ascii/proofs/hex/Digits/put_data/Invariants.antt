-- `modbus_ascii::hex::Digits::put_data` meets its contract. The loop's invariant: the first i bytes are stored.
use mathlib.Core.Path.{◌≡◌}
use lib.ListN.{take, drop}
use lib.Seq.{sets}
use Rattle.modbus_ascii.specs.Hex.{of_hex}
use Rattle.modbus_ascii.proofs.hex.Digits.put_data.Given as goal

abbrev pub invariant-loop-i : goal.invariant-loop-i
invariant-loop-i l = l.b-items ≡ sets l.initial.b-items 0 (take l.i (drop 2 (of_hex l.self.chars.now)))
