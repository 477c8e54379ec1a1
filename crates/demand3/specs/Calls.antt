-- Calls of the receiver's functions. Of each is known that it met its contract, as the source states it: `Post` is made from the source.
-- Assumes nothing.
use Rattle.std.specs.Prelude.{ℕ, List, Ok}
use borrow.Fn.World.{ArgsD, ResD}
use contract.Lifetimes.{Lfts}
use denote.Triple.Clauses.{AtExit}
use Rattle.sm160_receiver.specs.Receiving.{opened, standing}
use Rattle.sm160_receiver.specs.declared.Receiver.{Receiver}
use Rattle.sm160_receiver.specs.contracts.open as opening
use Rattle.sm160_receiver.proofs.open.Reads as opens
use Rattle.sm160_receiver.specs.contracts.receive as receiving
use Rattle.sm160_receiver.proofs.receive.Reads as receives
use Rattle.sm160_receiver.specs.contracts.receive_lent as lent
use Rattle.sm160_receiver.proofs.receive_lent.Reads as receives_lent
use Rattle.sm160_receiver.specs.contracts.receive_plain as plain
use Rattle.sm160_receiver.proofs.receive_plain.Reads as plainly
use Rattle.demand3.specs.Feeding.{Side, side, Exchange, exchange, Fed}

-- `open`, called for a session and a largest part, answered a receiver: so it did not refuse
pub data ByOpen : ℕ → ℕ → Receiver → Type 0 where
  of_open : (κs : Lfts 0) (a : ArgsD opening.signature κs) (s : Receiver) (e : AtExit opening.ended κs)
      → opens.Post κs a (Ok s) e
      → ByOpen a.0 a.1.0 s

-- A call found a state and a buffer, answered a frame, and left a state and a buffer. Its arguments are a, in the source's order
-- (a.0, a.1.0, a.1.1.0 ..), its answer is r, and e are the arguments at its end.
pub data ByCall : Side → Exchange → Side → Type 0 where
  of_receive : (κs : Lfts 2) (a : ArgsD receiving.signature κs) (r : ResD receiving.signature κs) (e : AtExit receiving.ended κs)
      → receives.Post κs a r e
      → ByCall (side a.0 a.1.1.0.now) (exchange a.1.0.now r.answer) (side r.state e.1.1.0.now)
  of_receive_lent : (κs : Lfts 3) (a : ArgsD lent.signature κs) (r : ResD lent.signature κs) (e : AtExit lent.ended κs)
      → receives_lent.Post κs a r e
      → ByCall (side a.0.now a.1.1.0.now) (exchange a.1.0.now r) (side e.0.now e.1.1.0.now)
  of_receive_plain : (κs : Lfts 2) (a : ArgsD plain.signature κs) (r : ResD plain.signature κs) (e : AtExit plain.ended κs)
      → plainly.Post κs a r e
      → ByCall (side (standing (opened a.0 a.1.0) a.1.1.0 a.1.1.1.0) a.1.1.1.1.1.0.now)
      (exchange a.1.1.1.1.0.now r.answer) (side r.state e.1.1.1.1.1.0.now)

-- a receiver is opened for a session and a limit, lent the buffer b, and fed frames
abbrev pub Calls : ℕ → ℕ → List ℕ → List Exchange → Side → Type 0
Calls session limit b xs τ = (s : Receiver) × ByOpen session limit s × Fed ByCall (side s b) xs τ
