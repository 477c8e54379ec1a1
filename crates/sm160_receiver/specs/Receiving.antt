-- The receiver of a file: what it answers to a frame, and what its state and the lent buffer are afterwards.
-- Assumes nothing.
use Rattle.std.specs.Prelude.{ℕ, ◌+◌, ◌≡◌, Bool, true, false, cond, not, ◌||◌, ◌&&◌, List, [], ◌∷◌, ◌++◌, ltb, eqb, length, take, Result, Ok, Err}
use Rattle.std.proofs.lemmas.List.Edits.{sets}
use Rattle.wire.specs.Refusal.{Rule, ◌when◌, first, asked_if}
use Rattle.wire.specs.Answer.{answered, judged, refuse as refused_by}
use Rattle.wire.specs.Numbered.{number_of}
use Rattle.wire.specs.declared.refusals.Refusal.{Refusal}
use Rattle.wire.specs.Told.{Told, accepted, refused}
use Rattle.sm160_frame.specs.Layout.{session_of, offset_of, part_of, is_start, is_end}
use Rattle.sm160_frame.specs.Reading.{bad_largest, frame_rules}
use Rattle.sm160_datagram.specs.Reading.{datagram_rules}
use Rattle.sm160_receiver.specs.declared.Receiver.{Receiver}
use Rattle.sm160_receiver.specs.declared.Progress.{Progress}
use Rattle.sm160_receiver.specs.declared.Progress.TheVariants.{Held, Complete}

-- "Opening sets count 0, nothing under way."
abbrev pub opened : ℕ → ℕ → Receiver
opened session largest = record { session = session; limit = largest; under_way = false; count = 0 }

-- "Refusals: 33 on opening with another number"
abbrev pub open_rules : ℕ → List Rule
open_rules largest = 33 when bad_largest largest ∷ []

-- "Opening takes the largest part, 1 to 240"
unfoldable pub opening : ℕ → ℕ → Result Receiver Refusal
opening session largest = judged (opened session largest) (first (open_rules largest))

-- "A receiver is a session, whether a file is under way, and the count held": s with these two, and all else of it stays; so "the receiver's
-- state keeps it through every later call"
abbrev pub standing : Receiver → Bool → ℕ → Receiver
standing s underWay n = record { session = s.session; limit = s.limit; under_way = underWay; count = n }

-- a file under way, of which n bytes are held
abbrev pub holding : ℕ → ℕ → ℕ → Receiver
holding session limit n = standing (opened session limit) true n

-- where a frame's part ends
unfoldable pub reached : List ℕ → ℕ
reached f = offset_of f + length (part_of f)

-- 20 state unfit: receiver's count beyond the buffer, under way with 0, or idle with other than 0, or its limit outside 1..240
unfoldable pub unfit : Receiver → List ℕ → Bool
unfit s b =
    ltb (length b) s.count || (s.under_way && eqb s.count 0) || (not s.under_way && not (eqb s.count 0)) || bad_largest s.limit

-- 26 other session
abbrev pub other_session : Receiver → List ℕ → Bool
other_session s f = not (eqb (session_of f) s.session)

-- 27 not START, nothing under way
abbrev pub nothing_under_way : Receiver → List ℕ → Bool
nothing_under_way s f = not (is_start f) && not s.under_way

-- 28 START with offset not 0
abbrev pub start_elsewhere : List ℕ → Bool
start_elsewhere f = is_start f && not (eqb (offset_of f) 0)

-- 29 not START, offset below the count
abbrev pub below_count : Receiver → List ℕ → Bool
below_count s f = not (is_start f) && ltb (offset_of f) s.count

-- 30 not START, offset above the count
abbrev pub above_count : Receiver → List ℕ → Bool
above_count s f = not (is_start f) && ltb s.count (offset_of f)

-- 31 part ends beyond the buffer
abbrev pub beyond_buffer : List ℕ → List ℕ → Bool
beyond_buffer b f = ltb (length b) (reached f)

-- where the receiver stands
abbrev pub place_rules : Receiver → List ℕ → List ℕ → List Rule
place_rules s b f =
    26 when other_session s f
    ∷ 27 when nothing_under_way s f
    ∷ 28 when start_elsewhere f
    ∷ 29 when below_count s f
    ∷ 30 when above_count s f
    ∷ 31 when beyond_buffer b f
    ∷ []

-- the file that a last frame would end: the bytes held, and its part
abbrev pub file_with : List ℕ → List ℕ → List ℕ
file_with b f = take (offset_of f) b ++ part_of f

-- "The receiver now completes only a well-formed datagram, one that meets none of 37 to 39": they are asked with END only
abbrev pub file_rules : List ℕ → List ℕ → List Rule
file_rules b f = asked_if (is_end f) (datagram_rules (file_with b f))

-- "Order is by number", at a receiver s with the buffer b: 20, then 21 to 25 of the frame by itself, "23 for a part above the kept limit",
-- then 26 to 31; and "after 31, in that order", 37 to 39
abbrev pub up_to31 : Receiver → List ℕ → List ℕ → List Rule
up_to31 s b f = 20 when unfit s b ∷ (frame_rules s.limit f ++ place_rules s b f)

abbrev pub receive_rules : Receiver → List ℕ → List ℕ → List Rule
receive_rules s b f = up_to31 s b f ++ file_rules b f

-- the number of the first that holds, 0 for none
unfoldable pub refusal : Receiver → List ℕ → List ℕ → ℕ
refusal s b f = first (receive_rules s b f)

-- what a frame comes to
pub record After : Type 0 where
  pub answer : Result Progress Refusal
  pub state : Receiver
  pub buffer : List ℕ

-- "Each returns its number and leaves every buffer and state untouched." So "A refused last frame isn't stored, and a file that was under way
-- stays so."
abbrev pub refuse : ℕ → Receiver → List ℕ → After
refuse n s b = record { answer = refused_by n; state = s; buffer = b }

-- "END completes: the answer is the length" and "Any other accepted frame is answered with the new count."
abbrev pub reply : Bool → ℕ → Result Progress Refusal
reply true n = Ok (Complete n)
reply false n = Ok (Held n)

-- the state after it, made from the state before it; at END "then nothing is under way and the count is 0"
abbrev pub state_after : Bool → Receiver → ℕ → Receiver
state_after true s n = standing s false 0
state_after false s n = standing s true n

-- "START begins again at 0, even over a file under way": an accepted frame's part is stored from its offset on, exactly its bytes, and the
-- file reaches to the part's end
abbrev pub accept : Receiver → List ℕ → List ℕ → After
accept s f b =
    record {
      answer = reply (is_end f) (reached f);
      state = state_after (is_end f) s (reached f);
      buffer = sets b (offset_of f) (part_of f);
    }

unfoldable pub Accepts : Receiver → List ℕ → List ℕ → Result Progress Refusal → Receiver → List ℕ → Type 0
Accepts s f b a s' b' = record { answer = a; state = s'; buffer = b' } ≡ accept s f b

-- one frame f, at a receiver s with the buffer b
unfoldable pub step : Receiver → List ℕ → List ℕ → After
step s f b = answered (λ n. refuse n s b) (accept s f b) (refusal s b f)

-- "The receiver's state is lent to each call and updated there, after the core stands by value": what each function that takes a frame
-- promises of the answer, the state and the buffer
unfoldable pub Took : Receiver → List ℕ → List ℕ → Result Progress Refusal → Receiver → List ℕ → Type 0
Took s f b a s' b' = record { answer = a; state = s'; buffer = b' } ≡ step s f b

-- accepted with the four fields of the state
abbrev pub told_opening : Result Receiver Refusal → Told
told_opening (Ok s) = accepted (s.session ∷ s.limit ∷ cond s.under_way 1 0 ∷ s.count ∷ [])
told_opening (Err e) = refused (number_of e)

-- accepted with 0 and the count held, or with 1 and the length of the whole file
abbrev pub told_answer : Result Progress Refusal → Told
told_answer (Ok (Held n)) = accepted (0 ∷ n ∷ [])
told_answer (Ok (Complete n)) = accepted (1 ∷ n ∷ [])
told_answer (Err e) = refused (number_of e)
