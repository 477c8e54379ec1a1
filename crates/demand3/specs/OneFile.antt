-- One file, cut in two ways: what is asked of the frames from an accepted START on, and what a completion then reports.
-- Assumes nothing.
use Rattle.std.specs.Prelude.{ℕ, ◌≡◌, true, false, List, [], ◌∷◌, ◌++◌, length, take, drop}
use Rattle.sm160_frame.specs.Layout.{offset_of, part_of, is_start, is_end}
use Rattle.sm160_receiver.specs.Receiving.{reached}
use Rattle.demand3.specs.Feeding.{Exchange}
use Rattle.demand3.specs.Completion.{is_refused}

-- answered with the bytes held, or with completion
abbrev pub Accepted : Exchange → Type 0
Accepted x = is_refused x.answer ≡ false

-- "after an accepted START": it is the first of these
unfoldable pub StartFirst : List Exchange → Type 0
StartFirst [] = ⊥
StartFirst (x ∷ xs) = (is_start x.frame ≡ true) × Accepted x

-- "every frame accepted" is so; of the others nothing is asked
unfoldable pub EachAccepted : (List ℕ → Type 0) → List Exchange → Type 0
EachAccepted P [] = Unit {0}
EachAccepted P (x ∷ xs) = (Accepted x → P x.frame) × EachAccepted P xs

-- the frame has "bytes that stand in one file at the frame's offset"
abbrev pub StandsIn : List ℕ → List ℕ → Type 0
StandsIn file f = part_of f ≡ take (length (part_of f)) (drop (offset_of f) file)

-- in the frame "END is set only where that file ends"
abbrev pub EndsOnlyWith : List ℕ → List ℕ → Type 0
EndsOnlyWith file f = is_end f ≡ true → reached f ≡ length file

-- all that comes in from that START on: "if it and every frame accepted after it hold" such bytes, and END is set so
pub record OfOneFile (file : List ℕ) (xs : List Exchange) : Type 0 where
  pub start : StartFirst xs
  pub stand : EachAccepted (StandsIn file) xs
  pub end : EachAccepted (EndsOnlyWith file) xs

-- "then a completion reports that file, whole": at n, its length; and the buffer, which was b before that START, is b', begins with the
-- file and is otherwise as it was
pub record Reports (file : List ℕ) (n : ℕ) (b b' : List ℕ) : Type 0 where
  pub true_length : n ≡ length file
  pub bytes : b' ≡ file ++ drop (length file) b
