-- `wire::le64_at` meets its contract.
use Rattle.wire.specs.Numbers.{of_le}
use Rattle.wire.proofs.Turns.{read_at}
use Rattle.wire.proofs.le64_at.Goals as goal

pub returns : goal.returns
returns c = read_at of_le _ _ _ 8 _ c.le_of.ensures.0 c.rest.ensures
