-- What it is for frames to carry a file.
-- Assumes nothing.
use Rattle.std.specs.Prelude.{ℕ, ◌+◌, ◌≡◌, Bool, true, false, List, [], ◌∷◌, ◌++◌, length}
use Rattle.sm160_frame.specs.Layout.{session_of, offset_of, part_of, is_start, is_end}
use Rattle.sm160_frame.specs.Reading.{frame_fault}

-- f is good by 01, with a part up to the limit, of the session, for the place, and has START and END as said
pub record Carries (session limit place : ℕ) (start end : Bool) (f : List ℕ) : Type 0 where
  pub good : frame_fault limit f ≡ 0
  pub ours : session_of f ≡ session
  pub placed : offset_of f ≡ place
  pub starts : is_start f ≡ start
  pub ends : is_end f ≡ end

abbrev pub none : List (List ℕ) → Bool
none [] = true
none (f ∷ fs) = false

-- frames in order, each for the place where the one before it ended; START, where `start`, on the first only, END on the last only
unfoldable pub InTurn : ℕ → ℕ → ℕ → Bool → List (List ℕ) → Type 0
InTurn session limit place start [] = Unit {0}
InTurn session limit place start (f ∷ fs) = Carries session limit place start (none fs) f × InTurn session limit (place + length (part_of f)) false fs

-- their parts, joined
unfoldable pub joined : List (List ℕ) → List ℕ
joined [] = []
joined (f ∷ fs) = part_of f ++ joined fs

-- the frames carry the file from its start to its end, in parts up to the limit
pub record Carried (session limit : ℕ) (file : List ℕ) (fs : List (List ℕ)) : Type 0 where
  pub whole : joined fs ≡ file
  pub turns : InTurn session limit 0 true fs
