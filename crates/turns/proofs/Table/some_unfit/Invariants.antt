-- `turns::Table::some_unfit` meets its contract. The loop's invariant: the first unfit of the slots left to look at is the first of all, and `seen` has the last bytes of the addresses before.
use mathlib.Core.Path.{◌≡◌}
use Prim.Native.Nat.{◌-◌}
use Rattle.turns.specs.Table.{onward, slots, first_of, unfit_slot}
use Rattle.turns.proofs.Fitness.{Seen}
use Rattle.turns.proofs.Table.some_unfit.Given as goal

abbrev pub invariant-loop-at : goal.invariant-loop-at
invariant-loop-at l =
    record {
      whole : first_of (unfit_slot l.self.addresses l.self.due) (onward l.at (32 - l.at)) ≡ first_of (unfit_slot l.self.addresses l.self.due) slots;
      seen : Seen l.self.addresses l.at l.seen;
    }
