-- `bits::word_before` meets its contract. The loop's invariant: v, and after it the bits of the fields from the i-th on, are those before the place.
use Rattle.bits.proofs.Write.{Before}
use Rattle.bits.proofs.word_before.Given as goal

abbrev pub invariant-loop-i : goal.invariant-loop-i
invariant-loop-i l = Before l.widths l.values l.end l.i l.left l.v
