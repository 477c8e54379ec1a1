-- No second answer would do, for each public function.
-- Assumes nothing.
use mathlib.Core.Path.{sym, ◌∙◌}
use mathlib.Core.List.{List}
use Prim.Native.Nat.{ℕ}
use Rattle.wire.specs.Writes.{Written}
use Rattle.wire.specs.Unique.{Unique}
use Rattle.wire.proofs.Writes.{writes_once}
use Rattle.pulsar_request.proofs.read_request.Reads as read-request
use Rattle.pulsar_request.proofs.request_function.Reads as request-function
use Rattle.pulsar_request.proofs.request_values.Reads as request-values
use Rattle.pulsar_request.proofs.write_request_body.Reads as write-request-body
use Rattle.pulsar_request.proofs.FunctionFromRequest.from.Reads as function-from
use Rattle.pulsar_request.proofs.FunctionFormed.form.Reads as function-form
use Rattle.pulsar_request.proofs.RequestFormed.form.Reads as request-form
use Rattle.pulsar_request.proofs.RequestBody.fields_fault.Reads as request-fields-fault
use Rattle.pulsar_request.proofs.RequestBody.put_head.Reads as request-put-head

pub read_request_unique : Unique read-request.Post (λ κs r s. r)
read_request_unique κs a r r' s s' e e' = e ∙ sym e'

pub request_function_unique : Unique request-function.Post (λ κs r s. r)
request_function_unique κs a r r' s s' e e' = e ∙ sym e'

pub request_values_unique : Unique request-values.Post (λ κs r s. r.now)
request_values_unique κs a r r' s s' e e' = e ∙ sym e'

pub write_request_body_unique : Unique {Y = λ κs. Written × List ℕ} write-request-body.Post (λ κs r s. (r, s.1.1.1.0.now))
write_request_body_unique κs a r r' s s' w w' = writes_once _ _ _ _ _ _ _ w w'

-- conversions, and the methods of traits, as each impl has them
pub function_from_unique : Unique function-from.Post (λ κs r s. r)
function_from_unique κs a r r' s s' e e' = e ∙ sym e'

pub function_form_unique : Unique function-form.Post (λ κs r s. r)
function_form_unique κs a r r' s s' e e' = e ∙ sym e'

pub request_form_unique : Unique request-form.Post (λ κs r s. r)
request_form_unique κs a r r' s s' e e' = e ∙ sym e'

pub request_fields_fault_unique : Unique request-fields-fault.Post (λ κs r s. r)
request_fields_fault_unique κs a r r' s s' e e' = e ∙ sym e'

pub request_put_head_unique : Unique request-put-head.Post (λ κs r s. s.1.0.now)
request_put_head_unique κs a r r' s s' e e' = e ∙ sym e'
