-- What the promises speak of: the round trips, and refusal 9.
-- Assumes nothing.
use Rattle.std.specs.Prelude.{ℕ, ◌<◌, ◌≡◌, List, Result, Err}
use Rattle.wire.specs.Each.{Bytes}
use Rattle.wire.specs.Refusal.{Rule, NoneHolds}
use Rattle.pulsar_frame.specs.declared.Fault.{Fault}
use Rattle.pulsar_frame.specs.declared.Fault.TheVariants.{Missing}
use Rattle.pulsar_frame.specs.declared.Frame.{Frame}

-- what the types of a writer's arguments say: the function is a byte, the ID is two, the payload is bytes
pub record Typed (function id : ℕ) (payload : List ℕ) : Type 0 where
  pub function_fits : function < 256
  pub id_fits : id < 65536
  pub payload_fits : Bytes payload

-- an answer is 9 exactly where no rule before it holds and some bytes lack, and it tells how many
pub record TellsMissing (answer : Result Frame Fault) (before : List Rule) (lack : ℕ) : Type 0 where
  pub told : NoneHolds before → 0 < lack → answer ≡ Err (Missing lack)
  pub only : (k : ℕ) → answer ≡ Err (Missing k) → NoneHolds before × (k ≡ lack) × (0 < k)
