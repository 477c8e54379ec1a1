-- `modbus_ascii::InAsciiEnvelope::needed` meets its contract.
use mathlib.Core.Path.{ap, sym, ◌∙◌}
use mathlib.Core.List.{List}
use Prim.Native.Nat.{ℕ, ◌+◌, ◌*◌}
use native.Mathlib.Omega.{arith}
use lib.ListN.{length}
use Rattle.modbus_ascii.proofs.Steps.{at_most_253, length_ascii}
use Rattle.modbus_ascii.proofs.InAsciiEnvelope.needed.Goals as goal

pub overflow_add-result : goal.overflow_add-result
overflow_add-result c = record { fits = omega (arith, ap length c.front.ensures, at_most_253 c.args.m.now.«data».now) }

pub returns : goal.returns
returns c = ap (λ (l : List ℕ). 9 + 2 * length l) c.front.ensures ∙ sym (length_ascii _ _ _)
