-- `modbus_ascii::hex::Digits::sum` meets its contract.
use mathlib.Core.Path.{◌≡◌, ap, ◌∙◌, sym}
use Prim.Native.Nat.{ℕ, ◌+◌, ◌%◌}
use native.Mathlib.Omega.{arith}
use lib.ListN.{get_or, drop}
use Rattle.checksum.specs.Sums.{sum_from}
use Rattle.checksum.proofs.Sums.{sum_turn, sum_last}
use Rattle.modbus_ascii.specs.Hex.{of_hex}
use Rattle.modbus_ascii.proofs.Pairs.{length_of_hex}
use Rattle.modbus_ascii.proofs.hex.Digits.sum.Goals as goal

pub loop-i-preserved : goal.loop-i-preserved
loop-i-preserved c =
    let l = c.loop-i in
    let p = of_hex c.args.self.now.chars.now in
    let sum : c.sum_byte-c.result ≡ (l.c + get_or p l.i 0) % 256 = c.sum_byte-c.ensures ∙ ap (λ (b : ℕ). (l.c + b) % 256) c.byte_at.ensures in
    (omega (arith, c.sum_byte-c.type_inv), ap (λ (x : ℕ). sum_from x (drop (l.i + 1) p)) sum ∙ sum_turn p l.i l.c (omega (arith, length_of_hex c.args.self.now.chars.now)) ∙ l.invariant.1)

pub returns : goal.returns
returns c =
    let l = c.loop-i in
    sym (sum_last _ l.i l.c (omega (arith, length_of_hex c.args.self.now.chars.now)) l.invariant.0) ∙ l.invariant.1
