-- No second answer would do, for each public function.
-- Assumes nothing.
use mathlib.Core.Path.{sym, ◌∙◌}
use mathlib.Core.List.{List}
use Prim.Native.Nat.{ℕ}
use Rattle.wire.specs.Unique.{Unique}
use Rattle.wire.specs.Writes.{Written}
use Rattle.wire.proofs.Writes.{writes_once}
use Rattle.sm160_read_file.proofs.read_request.Reads as read-request
use Rattle.sm160_read_file.proofs.name_of.Reads as name_of
use Rattle.sm160_read_file.proofs.read_reply.Reads as read-reply
use Rattle.sm160_read_file.proofs.message_of.Reads as message-of
use Rattle.sm160_read_file.proofs.write_request.Reads as write-request
use Rattle.sm160_read_file.proofs.write_reply.Reads as write-reply

pub read_request_unique : Unique read-request.Post (λ κs r s. r)
read_request_unique κs a r r' s s' e e' = e ∙ sym e'

pub name_of_unique : Unique name_of.Post (λ κs r s. r.now)
name_of_unique κs a r r' s s' e e' = e ∙ sym e'

pub read_reply_unique : Unique read-reply.Post (λ κs r s. r)
read_reply_unique κs a r r' s s' e e' = e ∙ sym e'

pub message_of_unique : Unique message-of.Post (λ κs r s. r.now)
message_of_unique κs a r r' s s' e e' = e ∙ sym e'

pub write_request_unique : Unique {Y = λ κs. Written × List ℕ} write-request.Post (λ κs r s. (r, s.1.1.1.0.now))
write_request_unique κs a r r' s s' w w' = writes_once _ _ _ r r' _ _ w w'

pub write_reply_unique : Unique {Y = λ κs. Written × List ℕ} write-reply.Post (λ κs r s. (r, s.1.1.1.0.now))
write_reply_unique κs a r r' s s' w w' = writes_once _ _ _ r r' _ _ w w'
