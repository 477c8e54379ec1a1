-- `turns::Table::next_after` meets its contract. The loop's invariant: the first of the slots left to look at is the first of all.
use mathlib.Core.Path.{◌≡◌}
use Prim.Native.Nat.{◌+◌, ◌-◌}
use Rattle.turns.specs.Table.{onward, first_of, due_in, next_due}
use Rattle.turns.proofs.Table.next_after.Given as goal

abbrev pub invariant-loop-step : goal.invariant-loop-step
invariant-loop-step l = first_of (due_in l.self.due) (onward (l.start + l.step) (32 - l.step)) ≡ next_due l.self
