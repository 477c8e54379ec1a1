-- `bits::eight_at` meets its contract. The loop's invariant: v is the bits of the first k bytes.
use mathlib.Core.Path.{◌≡◌}
use Prim.Native.Nat.{◌*◌, ◌≤◌}
use Rattle.wire.specs.Numbers.{field}
use Rattle.bits.specs.Bits.{of_bits, bits_in}
use Rattle.bits.proofs.eight_at.Given as goal

abbrev pub invariant-loop-k : goal.invariant-loop-k
invariant-loop-k l = (l.k ≤ 8) × (l.v ≡ of_bits (field (bits_in l.s) (8 * l.i) (8 * l.k)))
