-- `turns::Table::is_present` meets its contract.
use mathlib.Core.Path.{ap, ◌∙◌}
use Rattle.std.specs.Prelude.{is_some}
use Rattle.turns.specs.Table.{some, lowest_with}
use Rattle.turns.proofs.Places.{some_place}
use Rattle.turns.proofs.Table.is_present.Goals as goal

pub returns : goal.returns
unfolding some lowest_with
returns c = c.is_some.ensures ∙ ap is_some c.lowest_with.ensures ∙ some_place _
