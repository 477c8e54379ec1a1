-- `checksum::sum_from` meets its contract.
use mathlib.Core.Path.{◌∙◌, sym}
use native.Mathlib.Omega.{arith}
use Rattle.checksum.proofs.Sums.{sum_turn, sum_last}
use Rattle.checksum.proofs.sum_from.Goals as goal

pub loop-b-preserved : goal.loop-b-preserved
loop-b-preserved c = (omega (arith, c.sum_byte-c.type_inv), rw c.sum_byte-c.ensures (sum_turn _ _ _ c.loop-b-test.true ∙ c.loop-b.invariant.1))

pub returns : goal.returns
returns c = sym (sum_last _ _ _ c.loop-b-test.false c.loop-b.invariant.0) ∙ c.loop-b.invariant.1
