-- `modbus_ascii::hex::put_hex` meets its contract.
use mathlib.Core.Path.{refl, ◌∙◌}
use native.Mathlib.Omega.{arith}
use Rattle.modbus_ascii.specs.Hex.{hex}
use Rattle.modbus_ascii.proofs.Steps.{hex_turn}
use Rattle.modbus_ascii.proofs.hex.put_hex.Goals as goal

pub loop-i-init : goal.loop-i-init
unfolding hex
loop-i-init c = refl

pub loop-i-preserved : goal.loop-i-preserved
loop-i-preserved c =
    let l = c.loop-i in
    c.put_byte.ensures ∙ rw l.invariant (hex_turn _ _ _ l.i _ (omega arith) refl)
