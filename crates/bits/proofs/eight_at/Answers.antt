-- `bits::eight_at` meets its contract. The loop's invariant: v is the bits of the first k bytes.
use mathlib.Core.Path.{◌≡◌, refl, ap, ◌∙◌}
use Prim.Native.Nat.{ℕ, ◌*◌}
use native.Mathlib.Omega.{arith}
use Rattle.wire.specs.Numbers.{number, field}
use Rattle.bits.specs.Bits.{of_bits, bits_in}
use Rattle.bits.proofs.Read.{byte_room, byte_more}
use Rattle.bits.proofs.eight_at.Goals as goal

pub loop-k-init : goal.loop-k-init
unfolding of_bits number field
loop-k-init c = (omega arith, refl)

pub overflow_mul-v : goal.overflow_mul-v
overflow_mul-v c = omega (arith, byte_room _ _ _ _ c.loop-k.invariant.1 c.loop-k-test.true)

pub overflow_add-v : goal.overflow_add-v
overflow_add-v c = omega (arith, byte_room _ _ _ _ c.loop-k.invariant.1 c.loop-k-test.true)

pub loop-k-preserved : goal.loop-k-preserved
loop-k-preserved c = (omega arith, byte_more _ _ _ _ c.loop-k.invariant.1 _ c.byte_at.ensures c.byte_at.type_inv)

pub returns : goal.returns
returns c =
    let a = c.args in
    let done : c.loop-k.k ≡ 8 = omega arith in
    c.loop-k.invariant.1 ∙ ap (λ (n : ℕ). of_bits (field (bits_in a.s.now) (8 * a.i) (8 * n))) done
