-- `bits::word_before` meets its contract. The loop's invariant: v, and after it the bits of the fields from the i-th on, are those before the place.
use mathlib.Core.Path.{refl}
use Rattle.bits.proofs.Write.{before_none, before_more, before_part, before_all}
use Rattle.bits.proofs.word_before.Goals as goal

pub loop-i-init : goal.loop-i-init
loop-i-init c = before_none _ _ _

pub returns-then-left-w : goal.returns-then-left-w
returns-then-left-w c =
    before_part _ _ _ _ _ _ c.loop-i.invariant _ _ c.loop-i-test.true refl c.value_at-x.ensures _ _ c.if-left-w.true c.without_low.ensures c.with_low.ensures

pub loop-i-preserved : goal.loop-i-preserved
loop-i-preserved c =
    before_more _ _ _ _ _ _ c.loop-i.invariant _ _ c.loop-i-test.true refl c.value_at-x.ensures _ c.if-left-w.false c.with_low-v.ensures

pub returns : goal.returns
returns c = before_all _ _ _ _ _ _ c.loop-i.invariant _ c.loop-i-test.false c.with_low-2.ensures
