-- No second answer would do, for each public function.
-- Assumes nothing.
use mathlib.Core.Path.{sym, ◌∙◌}
use mathlib.Core.List.{List}
use Prim.Native.Nat.{ℕ}
use Rattle.wire.specs.Writes.{Written}
use Rattle.wire.specs.Unique.{Unique}
use Rattle.wire.proofs.Writes.{writes_once}
use Rattle.adi_reply.proofs.read_reply.Reads as read-reply
use Rattle.adi_reply.proofs.registers_at.Reads as registers-at
use Rattle.adi_reply.proofs.write_reply.Reads as write-reply
use Rattle.adi_reply.proofs.write_no_data.Reads as write-no-data

pub read_reply_unique : Unique read-reply.Post (λ κs r s. r)
read_reply_unique κs a r r' s s' e e' = e ∙ sym e'

pub registers_at_unique : Unique registers-at.Post (λ κs r s. r.now)
registers_at_unique κs a r r' s s' e e' = e ∙ sym e'

pub write_reply_unique : Unique {Y = λ κs. Written × List ℕ} write-reply.Post (λ κs r s. (r, s.1.1.0.now))
write_reply_unique κs a r r' s s' w w' = writes_once _ _ _ _ _ _ _ w w'

pub write_no_data_unique : Unique {Y = λ κs. Written × List ℕ} write-no-data.Post (λ κs r s. (r, s.1.1.0.now))
write_no_data_unique κs a r r' s s' w w' = writes_once _ _ _ _ _ _ _ w w'
