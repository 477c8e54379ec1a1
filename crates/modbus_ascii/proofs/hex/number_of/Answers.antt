-- `modbus_ascii::hex::number_of` meets its contract.
use native.Mathlib.Omega.{arith}
use Rattle.wire.proofs.Digits.{digit_of_number}
use Rattle.modbus_ascii.proofs.hex.number_of.Goals as goal

pub returns : goal.returns
returns c = digit_of_number _ (omega arith) c.requires
