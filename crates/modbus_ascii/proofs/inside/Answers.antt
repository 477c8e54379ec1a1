-- `modbus_ascii::inside` meets its contract.
use Rattle.modbus_ascii.specs.Ascii.{inside}
use Rattle.modbus_ascii.proofs.inside.Goals as goal

pub returns : goal.returns
unfolding inside
returns c = cc
