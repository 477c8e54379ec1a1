-- `checksum::remainder_after` meets its contract.
use mathlib.Core.Path.{◌∙◌, sym}
use Rattle.checksum.proofs.Remainder.{turn, last}
use Rattle.checksum.proofs.remainder_after.Goals as goal

pub loop-b-preserved : goal.loop-b-preserved
loop-b-preserved g c = rw c.add_byte-c.ensures (sym (turn g.F.Fours.poly _ _ _ c.loop-b-test.true) ∙ c.loop-b.invariant)

pub returns : goal.returns
returns g c = sym (last g.F.Fours.poly _ _ _ c.loop-b-test.false) ∙ c.loop-b.invariant
