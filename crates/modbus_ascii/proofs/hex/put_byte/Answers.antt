-- `modbus_ascii::hex::put_byte` meets its contract.
use Rattle.modbus_ascii.proofs.Steps.{stored_byte}
use Rattle.modbus_ascii.proofs.hex.put_byte.Goals as goal

pub returns : goal.returns
returns c =
    let a = c.args in
    cc (stored_byte a.out.now a.at a.b _ _ c.half.ensures c.half-2.ensures)
