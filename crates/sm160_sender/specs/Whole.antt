-- A file sent whole: calls of the sender, one after the other.
-- Assumes nothing.
use Rattle.std.specs.Prelude.{ℕ, ◌≡◌, List, [], ◌∷◌, length, take, Ok}
use Rattle.sm160_sender.specs.Sending.{Sends}

-- a call that wrote a frame: the output that was lent to it and what it holds after it, the answered length and the next place
pub record Call : Type 0 where
  pub lent : List ℕ
  pub after : List ℕ
  pub size : ℕ
  pub next : ℕ

-- calls in turn: the first at a place, each other at the place that the one before it answered, until the file's end is answered
unfoldable pub SentInTurn : List ℕ → ℕ → ℕ → ℕ → List Call → Type 0
SentInTurn file session largest place [] = place ≡ length file
SentInTurn file session largest place (c ∷ cs) =
    Sends file session largest place c.lent (Ok (record { length = c.size; next = c.next })) c.after × SentInTurn file session largest c.next cs

-- the frames that they wrote
unfoldable pub sent_frames : List Call → List (List ℕ)
sent_frames [] = []
sent_frames (c ∷ cs) = take c.size c.after ∷ sent_frames cs
