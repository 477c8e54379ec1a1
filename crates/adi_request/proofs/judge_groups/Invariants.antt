-- `adi_request::judge_groups` meets its contract. The loop's invariant: what is left to judge decides.
use mathlib.Core.Path.{◌≡◌}
use Prim.Native.Nat.{◌*◌}
use lib.ListN.{drop}
use Rattle.wire.specs.InTurn.{in_turn}
use Rattle.wire.specs.Refusal.{first}
use Rattle.adi.specs.Groups.{groups}
use Rattle.adi_request.specs.Layout.{six}
use Rattle.adi_request.specs.Reading.{group_rules}
use Rattle.adi_request.proofs.judge_groups.Given as goal

abbrev pub invariant-loop-group : goal.invariant-loop-group
invariant-loop-group l = first (in_turn group_rules (groups six (drop (l.group-index * 7) l.body))) ≡ first (in_turn group_rules (groups six l.body))
