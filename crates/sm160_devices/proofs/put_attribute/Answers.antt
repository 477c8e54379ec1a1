-- `sm160_devices::put_attribute` meets its contract.
use Rattle.sm160_devices.proofs.Stores.{stored_attribute}
use Rattle.sm160_devices.proofs.put_attribute.Goals as goal

pub returns : goal.returns
returns c =
    let a = c.args in
    cc (stored_attribute a.letter a.text.now a.out.now a.at)
