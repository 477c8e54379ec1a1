-- No second answer would do.
-- Assumes nothing.
use mathlib.Core.List.{List}
use Prim.Native.Nat.{ℕ}
use Rattle.std.specs.Prelude.{Result}
use Rattle.wire.specs.declared.refusals.Refusal.{Refusal}
use Rattle.wire.specs.Unique.{Unique}
use Rattle.sm160_sender.specs.declared.Sent.{Sent}
use Rattle.sm160_sender.proofs.Answers.{sends_once}
use Rattle.sm160_sender.proofs.send.Reads as send

pub send_unique : Unique {Y = λ κs. Result Sent Refusal × List ℕ} send.Post (λ κs r s. (r, s.1.1.1.1.0.now))
send_unique κs a r r' s s' w w' = sends_once _ _ _ _ _ _ _ _ _ w w'
