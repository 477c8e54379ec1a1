-- `modbus_ascii::hex::put_hex` meets its contract. The loop's invariant: the first i bytes are stored.
use mathlib.Core.Path.{◌≡◌}
use lib.ListN.{take}
use lib.Seq.{sets}
use Rattle.modbus_ascii.specs.Hex.{hex}
use Rattle.modbus_ascii.proofs.hex.put_hex.Given as goal

abbrev pub invariant-loop-i : goal.invariant-loop-i
invariant-loop-i l = l.out ≡ sets l.initial.out l.at (hex (take l.i l.src))
