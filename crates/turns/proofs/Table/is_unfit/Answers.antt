-- `turns::Table::is_unfit` meets its contract.
use Rattle.turns.specs.Table.{unfit}
use Rattle.turns.proofs.Table.is_unfit.Goals as goal

pub returns : goal.returns
unfolding unfit
returns c = cc
