-- `sm160_devices::Device::no_room` meets its contract.
use Rattle.sm160_devices.proofs.Stores.{room_left}
use Rattle.sm160_devices.proofs.Device.no_room.Goals as goal

pub returns : goal.returns
returns c = room_left _ _ _ _ _ _ _ c.is_none.ensures c.left.ensures
