-- `wire::le32_at` meets its contract.
use Rattle.wire.specs.Numbers.{of_le}
use Rattle.wire.proofs.Turns.{read_at}
use Rattle.wire.proofs.le32_at.Goals as goal

pub overflow_cast-result : goal.overflow_cast-result
overflow_cast-result c = record { fits = c.le_of.ensures.1 }

pub returns : goal.returns
returns c = read_at of_le _ _ _ 4 _ c.le_of.ensures.0 c.rest.ensures
