-- No second answer would do, for each public function.
-- Assumes nothing.
use mathlib.Core.Path.{sym, ◌∙◌}
use mathlib.Core.List.{List}
use Prim.Native.Nat.{ℕ}
use Rattle.wire.specs.Unique.{Unique}
use Rattle.wire.specs.Writes.{Written}
use Rattle.wire.proofs.Writes.{writes_once}
use Rattle.pulsar_frame.proofs.missing.Reads as missing
use Rattle.pulsar_frame.proofs.read_at_meter.Reads as read-at-meter
use Rattle.pulsar_frame.proofs.read_at_master.Reads as read-at-master
use Rattle.pulsar_frame.proofs.payload.Reads as payload
use Rattle.pulsar_frame.proofs.write_request.Reads as write-request
use Rattle.pulsar_frame.proofs.write_reply.Reads as write-reply

pub missing_unique : Unique missing.Post (λ κs r s. r)
missing_unique κs a r r' s s' e e' = e ∙ sym e'

pub read_at_meter_unique : Unique read-at-meter.Post (λ κs r s. r)
read_at_meter_unique κs a r r' s s' e e' = e ∙ sym e'

pub read_at_master_unique : Unique read-at-master.Post (λ κs r s. r)
read_at_master_unique κs a r r' s s' e e' = e ∙ sym e'

pub payload_unique : Unique payload.Post (λ κs r s. r.now)
payload_unique κs a r r' s s' e e' = e ∙ sym e'

pub write_request_unique : Unique {Y = λ κs. Written × List ℕ} write-request.Post (λ κs r s. (r, s.1.1.1.1.0.now))
write_request_unique κs a r r' s s' w w' = writes_once _ _ _ _ _ _ _ w w'

pub write_reply_unique : Unique {Y = λ κs. Written × List ℕ} write-reply.Post (λ κs r s. (r, s.1.1.1.1.0.now))
write_reply_unique κs a r r' s s' w w' = writes_once _ _ _ _ _ _ _ w w'
