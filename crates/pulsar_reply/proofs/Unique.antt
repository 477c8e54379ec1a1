-- No second answer would do, for each public function.
-- Assumes nothing.
use mathlib.Core.Path.{sym, ◌∙◌}
use mathlib.Core.List.{List}
use Prim.Native.Nat.{ℕ}
use Rattle.wire.specs.Writes.{Written}
use Rattle.wire.specs.Unique.{Unique}
use Rattle.wire.proofs.Writes.{writes_once}
use Rattle.pulsar_reply.proofs.read_reply.Reads as read-reply
use Rattle.pulsar_reply.proofs.reply_function.Reads as reply-function
use Rattle.pulsar_reply.proofs.reply_values.Reads as reply-values
use Rattle.pulsar_reply.proofs.write_reply_body.Reads as write-reply-body
use Rattle.pulsar_reply.proofs.FunctionFromReply.from.Reads as function-from
use Rattle.pulsar_reply.proofs.FunctionFormed.form.Reads as function-form
use Rattle.pulsar_reply.proofs.ReplyFormed.form.Reads as reply-form
use Rattle.pulsar_reply.proofs.ReplyBody.fields_fault.Reads as reply-fields-fault
use Rattle.pulsar_reply.proofs.ReplyBody.put_head.Reads as reply-put-head

pub read_reply_unique : Unique read-reply.Post (λ κs r s. r)
read_reply_unique κs a r r' s s' e e' = e ∙ sym e'

pub reply_function_unique : Unique reply-function.Post (λ κs r s. r)
reply_function_unique κs a r r' s s' e e' = e ∙ sym e'

pub reply_values_unique : Unique reply-values.Post (λ κs r s. r.now)
reply_values_unique κs a r r' s s' e e' = e ∙ sym e'

pub write_reply_body_unique : Unique {Y = λ κs. Written × List ℕ} write-reply-body.Post (λ κs r s. (r, s.1.1.1.1.0.now))
write_reply_body_unique κs a r r' s s' w w' = writes_once _ _ _ _ _ _ _ w w'

-- conversions, and the methods of traits, as each impl has them
pub function_from_unique : Unique function-from.Post (λ κs r s. r)
function_from_unique κs a r r' s s' e e' = e ∙ sym e'

pub function_form_unique : Unique function-form.Post (λ κs r s. r)
function_form_unique κs a r r' s s' e e' = e ∙ sym e'

pub reply_form_unique : Unique reply-form.Post (λ κs r s. r)
reply_form_unique κs a r r' s s' e e' = e ∙ sym e'

pub reply_fields_fault_unique : Unique reply-fields-fault.Post (λ κs r s. r)
reply_fields_fault_unique κs a r r' s s' e e' = e ∙ sym e'

pub reply_put_head_unique : Unique reply-put-head.Post (λ κs r s. s.1.0.now)
reply_put_head_unique κs a r r' s s' e e' = e ∙ sym e'
