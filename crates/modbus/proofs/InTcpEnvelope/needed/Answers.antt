-- `modbus::InTcpEnvelope::needed` meets its contract.
use mathlib.Core.Path.{sym, ap, ◌∙◌}
use mathlib.Core.List.{List}
use Prim.Native.Nat.{ℕ, ◌+◌}
use lib.ListN.{length}
use Rattle.modbus.proofs.Stores.{length_tcp}
use Rattle.modbus.proofs.InTcpEnvelope.needed.Goals as goal

pub returns : goal.returns
returns c = ap (λ (l : List ℕ). length l + 8) c.front.ensures ∙ sym (length_tcp _ _ _ _)
