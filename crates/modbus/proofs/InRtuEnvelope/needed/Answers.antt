-- `modbus::InRtuEnvelope::needed` meets its contract.
use mathlib.Core.Path.{sym, ap, ◌∙◌}
use mathlib.Core.List.{List}
use Prim.Native.Nat.{ℕ, ◌+◌}
use lib.ListN.{length}
use Rattle.modbus.proofs.Stores.{length_rtu}
use Rattle.modbus.proofs.InRtuEnvelope.needed.Goals as goal

pub returns : goal.returns
returns c = ap (λ (l : List ℕ). length l + 4) c.front.ensures ∙ sym (length_rtu _ _ _)
