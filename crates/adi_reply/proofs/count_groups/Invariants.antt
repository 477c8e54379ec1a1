-- `adi_reply::count_groups` meets its contract. The loop's invariant: what is left decides, and has the groups that are not counted yet.
use mathlib.Core.Path.{◌≡◌}
use Prim.Native.Nat.{◌+◌, ◌≤◌}
use lib.ListN.{length}
use Rattle.wire.specs.InTurn.{in_turn}
use Rattle.wire.specs.Refusal.{first}
use Rattle.adi.specs.Groups.{groups}
use Rattle.adi_reply.specs.Layout.{typed}
use Rattle.adi_reply.specs.Reading.{group_rules}
use Rattle.adi_reply.proofs.count_groups.Given as goal

abbrev pub invariant-loop-left : goal.invariant-loop-left
invariant-loop-left l =
    record {
      faults : first (in_turn group_rules (groups typed l.left)) ≡ first (in_turn group_rules (groups typed l.fn.body));
      counted : l.count + length (groups typed l.left) ≡ length (groups typed l.fn.body);
      few : l.count + length l.left ≤ length l.fn.body;
    }

abbrev pub decreases-loop-left : goal.decreases-loop-left
decreases-loop-left l = length l.left
