-- No second answer would do, for each public function.
-- Assumes nothing.
use mathlib.Core.Path.{◌≡◌, sym, ap, ◌∙◌}
use mathlib.Core.List.{List}
use Prim.Native.Nat.{ℕ}
use Rattle.std.specs.Prelude.{Result}
use Rattle.wire.specs.declared.refusals.Refusal.{Refusal}
use Rattle.wire.specs.Unique.{Unique}
use Rattle.sm160_receiver.specs.Receiving.{After, Took}
use Rattle.sm160_receiver.specs.declared.Receiver.{Receiver}
use Rattle.sm160_receiver.specs.declared.Received.{Received}
use Rattle.sm160_receiver.specs.declared.Progress.{Progress}
use Rattle.sm160_receiver.proofs.open.Reads as open-it
use Rattle.sm160_receiver.proofs.receive.Reads as receive
use Rattle.sm160_receiver.proofs.receive_lent.Reads as receive-lent
use Rattle.sm160_receiver.proofs.receive_plain.Reads as receive-plain

pub open_unique : Unique open-it.Post (λ κs r s. r)
open_unique κs a r r' s s' e e' = e ∙ sym e'

-- a step leaves no choice of answer, state or buffer
once : (s : Receiver) (f b : List ℕ) (a a' : Result Progress Refusal) (t t' : Receiver) (d d' : List ℕ) → Took s f b a t d → Took s f b a' t' d'
    → ◌≡◌ {A = After} (record { answer = a; state = t; buffer = d }) (record { answer = a'; state = t'; buffer = d' })
unfolding Took
once s f b a a' t t' d d' e e' = e ∙ sym e'

pub receive_unique : Unique {Y = λ κs. Received × List ℕ} receive.Post (λ κs r s. (r, s.1.1.0.now))
receive_unique κs a r r' s s' e e' =
    ap (λ (o : After). (record { answer = o.answer; state = o.state }, o.buffer)) (once _ _ _ _ _ _ _ _ _ e e')

pub receive_plain_unique : Unique {Y = λ κs. Received × List ℕ} receive-plain.Post (λ κs r s. (r, s.1.1.1.1.1.0.now))
receive_plain_unique κs a r r' s s' e e' =
    ap (λ (o : After). (record { answer = o.answer; state = o.state }, o.buffer)) (once _ _ _ _ _ _ _ _ _ e e')

pub receive_lent_unique : Unique {Y = λ κs. Result Progress Refusal × (Receiver × List ℕ)} receive-lent.Post (λ κs r s. (r, (s.0.now, s.1.1.0.now)))
receive_lent_unique κs a r r' s s' e e' = ap (λ (o : After). (o.answer, (o.state, o.buffer))) (once _ _ _ _ _ _ _ _ _ e e')
