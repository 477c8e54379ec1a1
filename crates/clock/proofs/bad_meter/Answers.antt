-- `clock::bad_meter` meets its contract.
use mathlib.Core.Path.{ap}
use mathlib.Core.Bool.{not}
use Rattle.clock.proofs.bad_meter.Goals as goal

pub returns : goal.returns
returns c = ap not c.is_date.ensures
