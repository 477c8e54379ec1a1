-- `bits::place_of` meets its contract. The loop's invariant: the bits of the first i fields, of at most 255 each.
use mathlib.Core.Path.{◌≡◌, refl, sym, ap₂, ap, ◌∙◌}
use Prim.Native.Nat.{ℕ, ◌+◌}
use native.Mathlib.Omega.{arith}
use lib.ListN.{take}
use Rattle.bits.specs.Fields.{total}
use Rattle.bits.proofs.Read.{total_more}
use Rattle.bits.proofs.place_of.Goals as goal

pub loop-i-init : goal.loop-i-init
unfolding total
loop-i-init c = (omega arith, refl, omega arith)

pub overflow_add-at : goal.overflow_add-at
overflow_add-at c = omega (arith, c.byte_at.type_inv, c.loop-i.invariant.2)

pub loop-i-preserved : goal.loop-i-preserved
loop-i-preserved c =
    let v = c.loop-i.invariant in
    (omega arith, ap₂ (λ (x y : ℕ). x + y) v.1 c.byte_at.ensures ∙ sym (total_more _ c.loop-i.i), omega (arith, c.byte_at.type_inv, v.2))

pub returns : goal.returns
returns c =
    let v = c.loop-i.invariant in
    let done : c.loop-i.i ≡ c.args.k = omega arith in
    (v.1 ∙ ap (λ (n : ℕ). total (take n c.args.widths.now)) done, omega (arith, v.2))
