-- `modbus_ascii::put_end` meets its contract.
use mathlib.Core.List.{[], ◌∷◌}
use Rattle.wire.proofs.Writing.{sets_append}
use Rattle.modbus_ascii.specs.Hex.{hex}
use Rattle.modbus_ascii.specs.Ascii.{carriage_return, line_feed}
use Rattle.modbus_ascii.proofs.put_end.Goals as goal

pub returns : goal.returns
unfolding hex
returns c =
    let a = c.args in
    cc (sets_append a.out.now a.at (hex (a.lrc ∷ [])) (carriage_return ∷ line_feed ∷ []))
