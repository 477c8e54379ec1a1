-- The sender of a file: one frame of it, from a place on.
-- Assumes nothing.
use Rattle.std.specs.Prelude.{ℕ, ◌+◌, ◌-◌, ◌≡◌, Bool, cond, ◌||◌, List, [], ◌∷◌, ◌++◌, ltb, leb, eqb, length, take, drop, Result, Ok, Err}
use Rattle.wire.specs.Refusal.{Rule, ◌when◌, first}
use Rattle.wire.specs.Answer.{judged}
use Rattle.wire.specs.Numbered.{number_of}
use Rattle.wire.specs.declared.refusals.Refusal.{Refusal}
use Rattle.wire.specs.Told.{Told, accepted, refused}
use Rattle.wire.specs.Writes.{write_output}
use Rattle.sm160_frame.specs.Layout.{START, END, frame_bytes}
use Rattle.sm160_frame.specs.Reading.{bad_largest}
use Rattle.sm160_datagram.specs.Reading.{datagram_rules}
use Rattle.sm160_sender.specs.declared.Sent.{Sent}

-- "the part is the lesser of the largest part and what remains"
abbrev pub part_at : List ℕ → ℕ → ℕ → List ℕ
part_at file largest place = take largest (drop place file)

abbrev pub next_place : List ℕ → ℕ → ℕ → ℕ
next_place file largest place = place + length (part_at file largest place)

-- what remains after the part
abbrev pub remains_at : List ℕ → ℕ → ℕ → ℕ
remains_at file largest place = length file - next_place file largest place

-- "START exactly at place 0, END exactly when nothing remains. QA is 0"
abbrev pub flags_for : Bool → Bool → ℕ
flags_for start end = cond start START 0 + cond end END 0

abbrev pub flags_at : List ℕ → ℕ → ℕ → ℕ
flags_at file largest place = flags_for (eqb place 0) (eqb (remains_at file largest place) 0)

-- "It writes one frame"; "the offset is the place"
unfoldable pub sent_bytes : List ℕ → ℕ → ℕ → ℕ → List ℕ
sent_bytes file session largest place = frame_bytes session place (flags_at file largest place) (part_at file largest place)

-- 32 sender: file empty or above 4,294,967,295 bytes
abbrev pub bad_file : List ℕ → Bool
bad_file file = eqb (length file) 0 || ltb 4294967295 (length file)

-- 34 sender: place at or past the end
abbrev pub past_end : List ℕ → ℕ → Bool
past_end file place = leb (length file) place

-- 16 output shorter than needed: 12 and the part; room is the output's length
abbrev pub no_room : List ℕ → ℕ → ℕ → ℕ → Bool
no_room file largest place room = ltb room (length (part_at file largest place) + 12)

abbrev pub place_rules : List ℕ → ℕ → ℕ → ℕ → List Rule
place_rules file largest place room =
    34 when past_end file place
    ∷ 16 when no_room file largest place room
    ∷ []

-- "the sender's order is 32, 33, 37, 38, 39, 34, 16": those of the whole file "for the sender after 33"
abbrev pub send_rules : List ℕ → ℕ → ℕ → ℕ → List Rule
send_rules file largest place room =
    32 when bad_file file
    ∷ 33 when bad_largest largest
    ∷ (datagram_rules file ++ place_rules file largest place room)

-- the same but for 16, the last
abbrev pub up_to34 : List ℕ → ℕ → ℕ → List Rule
up_to34 file largest place =
    32 when bad_file file
    ∷ 33 when bad_largest largest
    ∷ (datagram_rules file ++ (34 when past_end file place ∷ []))

-- "The sender gets file, session, largest part, place and a buffer. .. It answers the frame's length and the next place. Bytes after the
-- frame stay": the answer r, and what the output holds afterwards
pub record Sends (file : List ℕ) (session largest place : ℕ) (out : List ℕ) (r : Result Sent Refusal) (out' : List ℕ) : Type 0 where
  pub answer : r ≡ judged (record { length = length (sent_bytes file session largest place); next = next_place file largest place }) (first (send_rules file largest place (length out)))
  pub output : out' ≡ write_output (first (send_rules file largest place (length out))) (sent_bytes file session largest place) out

-- the length and the next place
abbrev pub told_sent : Result Sent Refusal → Told
told_sent (Ok s) = accepted (s.length ∷ s.next ∷ [])
told_sent (Err e) = refused (number_of e)
