-- A receiver that is fed frames in turn, with one buffer that, like its state, nobody else writes.
-- Assumes nothing.
use Rattle.std.specs.Prelude.{ℕ, ◌≡◌, List, [], ◌∷◌, ◌++◌, Result, Ok}
use Rattle.sm160_receiver.specs.Receiving.{opening, Took}
use Rattle.sm160_receiver.specs.declared.Receiver.{Receiver}
use Rattle.sm160_receiver.specs.declared.Progress.{Progress}
use Rattle.wire.specs.declared.refusals.Refusal.{Refusal}

-- what is answered to a frame
abbrev pub Answer : Type 0
Answer = Result Progress Refusal

-- a receiver's state, and the buffer that it is lent
pub record Side : Type 0 where
  pub state : Receiver
  pub buffer : List ℕ

abbrev pub side : Receiver → List ℕ → Side
side s b = record { state = s; buffer = b }

-- a frame, and what is answered to it
pub record Exchange : Type 0 where
  pub frame : List ℕ
  pub answer : Answer

abbrev pub exchange : List ℕ → Answer → Exchange
exchange f a = record { frame = f; answer = a }

abbrev pub frames_of : List Exchange → List (List ℕ)
frames_of [] = []
frames_of (x ∷ xs) = x.frame ∷ frames_of xs

-- the last frame is answered so
abbrev pub EndsWith : Answer → List Exchange → Type 0
EndsWith a xs = (earlier : List Exchange) × (last : List ℕ) × (xs ≡ earlier ++ (exchange last a ∷ []))

-- Frames are fed in turn, and answered so, from σ to τ. Each finds what the one before it left: nobody else writes state or buffer.
-- `One` is what is known of each frame: `ByStep` here, `ByCall` in specs/Calls.
unfoldable pub Fed : (Side → Exchange → Side → Type 0) → Side → List Exchange → Side → Type 0
Fed One σ [] τ = τ ≡ σ
Fed One σ (x ∷ xs) τ = (ρ : Side) × One σ x ρ × Fed One ρ xs τ

-- ---- as the receiver's step has it (specs/Calls has the same of calls)
abbrev pub ByStep : Side → Exchange → Side → Type 0
ByStep σ x τ = Took σ.state x.frame σ.buffer x.answer τ.state τ.buffer

-- a receiver is opened for a session and a limit, lent the buffer b, and fed frames
abbrev pub Steps : ℕ → ℕ → List ℕ → List Exchange → Side → Type 0
Steps session limit b xs τ = (s : Receiver) × (opening session limit ≡ Ok s) × Fed ByStep (side s b) xs τ
