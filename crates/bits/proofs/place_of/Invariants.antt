-- `bits::place_of` meets its contract. The loop's invariant: the bits of the first i fields, of at most 255 each.
use mathlib.Core.Path.{◌≡◌}
use Prim.Native.Nat.{◌*◌, ◌≤◌}
use lib.ListN.{take}
use Rattle.bits.specs.Fields.{total}
use Rattle.bits.proofs.place_of.Given as goal

abbrev pub invariant-loop-i : goal.invariant-loop-i
invariant-loop-i l = (l.i ≤ l.k) × (l.at ≡ total (take l.i l.widths)) × (l.at ≤ 255 * l.i)
