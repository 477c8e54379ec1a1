-- `clock::bad_cabinet` meets its contract.
use mathlib.Core.Path.{ap}
use mathlib.Core.Bool.{not}
use Rattle.clock.proofs.bad_cabinet.Goals as goal

pub returns : goal.returns
returns c = ap not c.is_date.ensures
