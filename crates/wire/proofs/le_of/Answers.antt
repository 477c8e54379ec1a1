-- `wire::le_of` meets its contract. The loop's invariant: v is the number of the bytes from i on.
use native.Mathlib.Omega.{arith}
use lib.Dec.{lit<}
use Rattle.wire.proofs.Turns.{from_end, from_room, from_more, from_all}
use Rattle.wire.proofs.le_of.Goals as goal

pub loop-i-init : goal.loop-i-init
loop-i-init c = from_end _ _

pub overflow_mul-v : goal.overflow_mul-v
overflow_mul-v c = record { fits = omega (arith, from_room _ _ _ _ c.loop-i.invariant c.loop-i-test.true c.requires 0 (lit< tt)) }

pub overflow_add-v : goal.overflow_add-v
overflow_add-v c = record { fits = from_room _ _ _ _ c.loop-i.invariant c.loop-i-test.true c.requires c.byte_at.result c.byte_at.type_inv }

pub loop-i-preserved : goal.loop-i-preserved
loop-i-preserved c = from_more _ _ _ _ c.loop-i.invariant c.loop-i-test.true c.byte_at.result c.byte_at.type_inv c.byte_at.ensures

pub returns : goal.returns
returns c = from_all _ _ _ _ c.loop-i.invariant c.loop-i-test.false
