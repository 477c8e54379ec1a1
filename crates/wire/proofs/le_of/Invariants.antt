-- `wire::le_of` meets its contract. The loop's invariant: v is the number of the bytes from i on.
use Rattle.wire.proofs.Turns.{From}
use Rattle.wire.proofs.le_of.Given as goal

abbrev pub invariant-loop-i : goal.invariant-loop-i
invariant-loop-i l = From l.s l.w l.i l.v
