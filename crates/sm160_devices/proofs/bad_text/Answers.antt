-- `sm160_devices::bad_text` meets its contract.
use Rattle.sm160_devices.proofs.Stores.{bad_text_as}
use Rattle.sm160_devices.proofs.bad_text.Goals as goal

pub returns : goal.returns
returns c = bad_text_as _ _ c.text_end.ensures
