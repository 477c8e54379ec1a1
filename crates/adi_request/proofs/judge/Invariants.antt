-- `adi_request::judge` meets its contract. The loop's invariant: what is left to judge decides.
use mathlib.Core.Path.{◌≡◌}
use lib.ListN.{drop}
use Rattle.wire.specs.InTurn.{in_turn}
use Rattle.wire.specs.Refusal.{first}
use Rattle.adi_request.specs.Writing.{given, asked_rules}
use Rattle.adi_request.proofs.judge.Given as goal

abbrev pub invariant-loop-group : goal.invariant-loop-group
invariant-loop-group l = first (in_turn asked_rules (given (drop l.group-index l.groups))) ≡ first (in_turn asked_rules (given l.groups))
