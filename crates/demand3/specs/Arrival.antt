-- What it is for a file to arrive, and what is then delivered.
-- Assumes nothing.
use Rattle.std.specs.Prelude.{ℕ, ◌+◌, ◌≤◌, ◌≡◌, List, [], ◌∷◌, ◌++◌, map, length, drop, Ok, Err}
use Rattle.sm160_frame.specs.Layout.{part_of}
use Rattle.sm160_frame.specs.Carried.{none, Carried}
use Rattle.sm160_datagram.specs.Reading.{datagram_fault}
use Rattle.sm160_receiver.specs.Receiving.{reply}
use Rattle.sm160_receiver.specs.declared.Progress.TheVariants.{Complete}
use Rattle.wire.specs.declared.refusals.Refusal.{Refusal}
use Rattle.demand3.specs.Feeding.{Side, Exchange, exchange, frames_of, EndsWith}

-- ---- a file arrives

-- what comes in while it does: a frame of the file, with what is answered to it; or another frame, with what refuses it
pub data Item : Type 0 where
  file_frame : Exchange → Item
  other_frame : List ℕ → Refusal → Item

-- all that comes in
unfoldable pub all : List Item → List Exchange
all [] = []
all (file_frame x ∷ is) = x ∷ all is
all (other_frame f e ∷ is) = exchange f (Err e) ∷ all is

-- the file's own
unfoldable pub own : List Item → List Exchange
own [] = []
own (file_frame x ∷ is) = x ∷ own is
own (other_frame f e ∷ is) = own is

-- "Demand 3 then speaks of parts up to that limit", and of "a well-formed datagram, one that meets none of 37 to 39, so demand 3 speaks of such
-- files": the file arrives in the session, for a receiver that was opened with the limit and lent the
-- buffer b, among the items: so with only refused frames between.
pub record Arrives (session limit : ℕ) (file b : List ℕ) (is : List Item) : Type 0 where
  -- a well-formed datagram, and so of 18 bytes or more
  pub datagram : datagram_fault file ≡ 0
  -- fitting the buffer; that it fits the offset field is in `carried`, where each part's place is its frame's offset
  pub fits : length file ≤ length b
  -- cut anywhere into parts of 1 byte up to the limit (with it no other part is good, rule 23), in order, in frames good by 01 and of the
  -- session, each with its part's place in the file as offset, START on the first only, END on the last only
  pub carried : Carried session limit file (frames_of (own is))

-- ---- and is delivered

-- what its frames are due, from a place on: the bytes held after each, and at the last the length
unfoldable pub counts : ℕ → List (List ℕ) → List Exchange
counts place [] = []
counts place (f ∷ fs) =
    let held = place + length (part_of f) in
    exchange f (reply (none fs) held) ∷ counts held fs

-- The items came in from σ to τ. `FedNew session limit b xs ρ` is that a newly opened receiver is lent b and fed frames: `Steps` or `Calls`.
pub record Delivered (FedNew : ℕ → ℕ → List ℕ → List Exchange → Side → Type 0) (session limit : ℕ) (file : List ℕ) (is : List Item) (σ τ : Side) : Type 0 where
  -- each of its frames is answered as by a newly opened receiver that gets these frames alone, with any buffer that the file fits
  pub as_new : (b : List ℕ) (alone : List Exchange) (ρ : Side) → length file ≤ length b
      → FedNew session limit b alone ρ → frames_of alone ≡ frames_of (own is) → own is ≡ alone
  -- which is with the bytes held so far
  pub counted : own is ≡ counts 0 (frames_of (own is))
  -- the file is reported complete at its last frame, at its true length
  pub complete : EndsWith (Ok (Complete (length file))) (own is)
  -- the buffer begins with it and is otherwise as before its first frame
  pub bytes : τ.buffer ≡ file ++ drop (length file) σ.buffer

-- a file's frames with nothing between them
abbrev pub file_frames : List Exchange → List Item
file_frames = map file_frame
