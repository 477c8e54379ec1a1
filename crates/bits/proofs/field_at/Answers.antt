-- `bits::field_at` meets its contract.
use mathlib.Core.Path.{sym, ap, ap₂, ◌∙◌}
use Prim.Native.Nat.{ℕ, ◌%◌, ◌^◌}
use native.Mathlib.Nat.{zero-add}
use lib.ListN.{get_or}
use Rattle.wire.specs.Numbers.{field}
use Rattle.bits.specs.Bits.{of_bits, bits_in}
use Rattle.bits.proofs.Fields.{value_of_lem}
use Rattle.bits.proofs.field_at.Goals as goal

pub returns : goal.returns
returns c =
    let a = c.args in
    let bs = bits_in a.s.now in
    c.bits_at.ensures
    ∙ ap (λ (x : ℕ). x % 2 ^ 64)
    (ap₂ (λ (at w : ℕ). of_bits (field bs at w)) c.place_of.ensures.0 c.byte_at.ensures
    ∙ sym (value_of_lem a.widths.now 0 a.k bs ∙ ap (λ (at : ℕ). of_bits (field bs at (get_or a.widths.now a.k 0))) (zero-add _)))
