-- No second answer would do, for each public function.
-- Assumes nothing.
use mathlib.Core.Path.{sym, ◌∙◌}
use mathlib.Core.List.{List}
use Prim.Native.Nat.{ℕ}
use Rattle.wire.specs.Writes.{Written}
use Rattle.wire.specs.Unique.{Unique}
use Rattle.wire.proofs.Writes.{writes_once}
use Rattle.pulsar_body.proofs.write_body.Reads as write-body
use Rattle.pulsar_body.proofs.not_one.Reads as not-one
use Rattle.pulsar_body.proofs.not_date.Reads as not-date
use Rattle.pulsar_body.proofs.mask_fault.Reads as mask-fault
use Rattle.pulsar_body.proofs.one_fault.Reads as one-fault
use Rattle.pulsar_body.proofs.date_fault.Reads as date-fault
use Rattle.pulsar_body.proofs.body_fault.Reads as body-fault
use Rattle.pulsar_body.proofs.values_fault.Reads as values-fault
use Rattle.pulsar_body.proofs.room_fault.Reads as room-fault
use Rattle.pulsar_body.proofs.FormFormed.form.Reads as form-form

pub not_one_unique : Unique not-one.Post (λ κs r s. r)
not_one_unique κs a r r' s s' e e' = e ∙ sym e'

pub not_date_unique : Unique not-date.Post (λ κs r s. r)
not_date_unique κs a r r' s s' e e' = e ∙ sym e'

pub mask_fault_unique : Unique mask-fault.Post (λ κs r s. r)
mask_fault_unique κs a r r' s s' e e' = e ∙ sym e'

pub one_fault_unique : Unique one-fault.Post (λ κs r s. r)
one_fault_unique κs a r r' s s' e e' = e ∙ sym e'

pub date_fault_unique : Unique date-fault.Post (λ κs r s. r)
date_fault_unique κs a r r' s s' e e' = e ∙ sym e'

pub body_fault_unique : (T : _) (l : _) (c : _) (f : _) (d : _) (k : _) (e : _) → Unique (body-fault.Post T l c f d k e) (λ κs r s. r)
body_fault_unique T l c f d k h κs a r r' s s' e e' = e ∙ sym e'

pub values_fault_unique : Unique values-fault.Post (λ κs r s. r)
values_fault_unique κs a r r' s s' e e' = e ∙ sym e'

pub room_fault_unique : Unique room-fault.Post (λ κs r s. r)
room_fault_unique κs a r r' s s' e e' = e ∙ sym e'

pub write_body_unique : (T : _) (l : _) (c : _) (b : _) (d : _) (f : _) (e : _) (k : _) (h : _) → Unique {Y = λ κs. Written × List ℕ} (write-body.Post T l c b d f e k h) (λ κs r s. (r, s.1.1.1.1.0.now))
write_body_unique T l c b d f e k h κs a r r' s s' w w' = writes_once _ _ _ _ _ _ _ w w'

-- conversions, and the methods of traits, as each impl has them
pub form_form_unique : Unique form-form.Post (λ κs r s. r)
form_form_unique κs a r r' s s' e e' = e ∙ sym e'
