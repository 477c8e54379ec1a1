-- No second answer would do, for each public function.
-- Assumes nothing.
use mathlib.Core.Path.{sym, ◌∙◌}
use mathlib.Core.List.{List}
use Prim.Native.Nat.{ℕ}
use Rattle.wire.specs.Writes.{Written}
use Rattle.wire.specs.Unique.{Unique}
use Rattle.wire.proofs.Writes.{writes_once}
use Rattle.adi_request.proofs.read_request.Reads as read-request
use Rattle.adi_request.proofs.asked_at.Reads as asked-at
use Rattle.adi_request.proofs.write_request.Reads as write-request
use Rattle.adi_request.proofs.AskedFromArrayU163.from.Reads as asked-from

pub read_request_unique : Unique read-request.Post (λ κs r s. r)
read_request_unique κs a r r' s s' e e' = e ∙ sym e'

pub asked_at_unique : Unique asked-at.Post (λ κs r s. r)
asked_at_unique κs a r r' s s' e e' = e ∙ sym e'

pub write_request_unique : Unique {Y = λ κs. Written × List ℕ} write-request.Post (λ κs r s. (r, s.1.0.now))
write_request_unique κs a r r' s s' w w' = writes_once _ _ _ _ _ _ _ w w'

-- conversions, and the methods of traits, as each impl has them
pub asked_from_unique : Unique asked-from.Post (λ κs r s. r)
asked_from_unique κs a r r' s s' e e' = e ∙ sym e'
