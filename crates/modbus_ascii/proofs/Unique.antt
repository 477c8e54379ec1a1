-- No second answer would do, for each public function.
-- Assumes nothing.
use mathlib.Core.Path.{sym, ap₂, ◌∙◌}
use mathlib.Core.List.{List}
use Prim.Native.Nat.{ℕ}
use Rattle.wire.specs.Unique.{Unique}
use Rattle.std.specs.Prelude.{Result}
use Rattle.wire.specs.Writes.{Written}
use Rattle.wire.specs.declared.refusals.Refusal.{Refusal}
use Rattle.wire.proofs.Writes.{writes_once}
use Rattle.modbus_ascii.specs.declared.Ascii.{Ascii}
use Rattle.modbus_ascii.proofs.read_ascii.Reads as read-ascii
use Rattle.modbus_ascii.proofs.write_ascii.Reads as write-ascii
use Rattle.modbus_ascii.proofs.InAsciiEnvelope.needed.Reads as ascii-needed
use Rattle.modbus_ascii.proofs.InAsciiEnvelope.put.Reads as ascii-put

pub read_ascii_unique : Unique {Y = λ κs. Result Ascii Refusal × List ℕ} read-ascii.Post (λ κs r s. (r, s.1.0.now))
read_ascii_unique κs a r r' s s' w w' = ap₂ (λ (x : Result Ascii Refusal) (y : List ℕ). (x, y)) (w.0 ∙ sym w'.0) (w.1 ∙ sym w'.1)

pub write_ascii_unique : Unique {Y = λ κs. Written × List ℕ} write-ascii.Post (λ κs r s. (r, s.1.1.1.0.now))
write_ascii_unique κs a r r' s s' w w' = writes_once _ _ _ _ _ _ _ w w'

-- the methods of `Envelope`
pub ascii_needed_unique : Unique ascii-needed.Post (λ κs r s. r)
ascii_needed_unique κs a r r' s s' e e' = e ∙ sym e'

pub ascii_put_unique : Unique ascii-put.Post (λ κs r s. s.1.1.0.now)
ascii_put_unique κs a r r' s s' e e' = e ∙ sym e'
