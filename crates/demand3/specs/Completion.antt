-- What stands in the buffer whenever completion is reported.
-- Assumes nothing.
use Rattle.std.specs.Prelude.{ℕ, ◌≡◌, Bool, true, false, cond, List, [], ◌∷◌, ◌++◌, length, take, Ok, Err}
use Rattle.sm160_frame.specs.Layout.{is_start}
use Rattle.sm160_frame.specs.Carried.{joined, Carried}
use Rattle.sm160_datagram.specs.Reading.{datagram_fault}
use Rattle.demand3.specs.Feeding.{Answer, Exchange}

abbrev pub is_refused : Answer → Bool
is_refused (Ok p) = false
is_refused (Err e) = true

-- the frames that are accepted
unfoldable pub accepted_frames : List Exchange → List (List ℕ)
accepted_frames [] = []
accepted_frames (x ∷ xs) = cond (is_refused x.answer) (accepted_frames xs) (x.frame ∷ accepted_frames xs)

-- of frames, those from the last START on; `kept` are those so far
unfoldable pub keep_from : List (List ℕ) → List (List ℕ) → List (List ℕ)
keep_from kept [] = kept
keep_from kept (f ∷ fs) = keep_from (cond (is_start f) [] kept ++ (f ∷ [])) fs

abbrev pub since_start : List (List ℕ) → List (List ℕ)
since_start fs = keep_from [] fs

-- The first n bytes of the buffer b are a well-formed datagram, and the joined parts of the frames, which carry them as a file is carried: without gap
-- or repeat, each part up to the limit and at its frame's offset, START on the first frame only, END on the last only.
pub record HoldsFile (session limit n : ℕ) (b : List ℕ) (fs : List (List ℕ)) : Type 0 where
  pub datagram : datagram_fault (take n b) ≡ 0
  pub count : n ≡ length (joined fs)
  pub carried : Carried session limit (take n b) fs
