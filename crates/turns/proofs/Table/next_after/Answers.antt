-- `turns::Table::next_after` meets its contract.
use mathlib.Core.Path.{ap}
use Prim.Native.Nat.{◌+◌, ◌-◌, ◌%◌}
use native.Mathlib.Omega.{arith}
use Rattle.turns.specs.Table.{place, first_of, next_after, due_in}
use Rattle.turns.proofs.Places.{due_found, due_passed}
use Rattle.turns.proofs.Round.{same_way, none_left}
use Rattle.turns.proofs.Table.next_after.Goals as goal

pub loop-step-init : goal.loop-step-init
unfolding next_after
loop-step-init c = ap (first_of (due_in c.args.self.now.due)) (same_way (c.args.self.now.last % 32 + 0) c.args.self.now.last 32 (omega arith))

pub returns-then-self-next : goal.returns-then-self-next
returns-then-self-next c = due_found c.args.self.now.due _ _ (32 - c.loop-step.step) c.loop-step.invariant (omega arith) c.if-self-next.true

pub loop-step-preserved : goal.loop-step-preserved
loop-step-preserved c = due_passed c.args.self.now.due _ (c.args.self.now.last % 32) c.loop-step.step c.loop-step.invariant (omega arith) c.if-self-next.false

pub returns : goal.returns
returns c = ap place (none_left (due_in c.args.self.now.due) _ _ (32 - c.loop-step.step) c.loop-step.invariant (omega arith))
