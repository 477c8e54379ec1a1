-- `sm160_text::position_of` meets its contract. The loop's invariant: so many characters were counted.
use Rattle.sm160_text.proofs.position_of.Goals.{then-b-eq10, else-b-eq10}
use native.Mathlib.Omega.{arith}
use Rattle.sm160_text.proofs.Positions.{counted_none, counted_feed, counted_other, counted_all}
use Rattle.sm160_text.proofs.position_of.Goals as goal

pub loop-b-init : goal.loop-b-init
loop-b-init c = counted_none _

pub overflow_add-line : goal.overflow_add-line
overflow_add-line c = omega (arith, c.loop-b.invariant.line_most)

pub overflow_add-column : goal.overflow_add-column
overflow_add-column c = omega (arith, c.loop-b.invariant.column_most)

pub returns : goal.returns
returns c = counted_all _ _ _ _ c.loop-b.invariant c.loop-b-test.false _ _ c.front-b-items.ensures

pub loop-b-preserved : goal.loop-b-preserved
loop-b-preserved c =
    let v = c.loop-b.invariant in
    let more = c.loop-b-test.true in
    elim c.if-b-eq10.branch [
      | then-b-eq10 w ↦ rw (w.line-is, w.column-is) (counted_feed _ _ _ _ v more w.if-b-eq10.true)
      | else-b-eq10 w ↦ rw (w.line-is, w.column-is) (counted_other _ _ _ _ v more w.if-b-eq10.false)
    ]
