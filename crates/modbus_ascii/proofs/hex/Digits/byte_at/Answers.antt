-- `modbus_ascii::hex::Digits::byte_at` meets its contract.
use mathlib.Core.Path.{◌∙◌, sym}
use Rattle.modbus_ascii.proofs.Pairs.{get_d_of_hex}
use Rattle.modbus_ascii.proofs.hex.Digits.byte_at.Goals as goal

pub returns : goal.returns
returns c = c.byte_of.ensures ∙ sym (get_d_of_hex _ _ c.requires)
