-- `sm160_text::position_of` meets its contract. The loop's invariant: so many characters were counted.
use Rattle.sm160_text.proofs.Positions.{Counted}
use Rattle.sm160_text.proofs.position_of.Given as goal

abbrev pub invariant-loop-b : goal.invariant-loop-b
invariant-loop-b l = Counted l.b-items l.line l.column l.b-index
