-- What a frame is judged by, and what reading it by its fields alone answers: the conditions of the refusal table, their order, and the answer.
-- Assumes nothing.
use Rattle.std.specs.Prelude.{ℕ, ◌+◌, Bool, not, ◌||◌, List, [], ◌∷◌, ltb, eqb, length, Result, Ok, Err}
use Rattle.wire.specs.Refusal.{Rule, ◌when◌, first}
use Rattle.wire.specs.Answer.{judged}
use Rattle.wire.specs.Numbered.{number_of}
use Rattle.wire.specs.declared.refusals.Refusal.{Refusal}
use Rattle.wire.specs.Told.{Told, accepted, refused}
use Rattle.sm160_frame.specs.Layout.{QA, START, END, has, session_of, offset_of, size_of, crc_of, crc_due, flags_of, part_of}
use Rattle.sm160_frame.specs.declared.Fields.{Fields}

-- the largest part of all: a frame's by its fields alone, and the largest that can be agreed on
abbrev pub LARGEST : ℕ
LARGEST = 240

-- 33 sender: largest part not 1..240; on opening with another number
abbrev pub bad_largest : ℕ → Bool
bad_largest largest = eqb largest 0 || ltb LARGEST largest

-- 21 fewer than 12 bytes
abbrev pub too_short : List ℕ → Bool
too_short s = ltb (length s) 12

-- 22 part size differs from the bytes after the header
abbrev pub wrong_size : List ℕ → Bool
wrong_size s = not (eqb (size_of s) (length (part_of s)))

-- 23 part empty or above 240; at the receiver above the kept limit
abbrev pub bad_part : ℕ → List ℕ → Bool
bad_part limit part = eqb (length part) 0 || ltb limit (length part)

-- 24 part's CRC16 differs
abbrev pub wrong_crc : List ℕ → Bool
wrong_crc s = not (eqb (crc_of s) (crc_due s))

-- 25 QA or an unknown flag set: "a controller's frame with QA 0", and the known ones are the lowest three bits
abbrev pub bad_flags : ℕ → Bool
bad_flags flags = has QA flags || ltb (QA + START + END) flags

-- "A frame is also read and written by its fields alone, under 16 and 21 to 25." "Order is by number": with a limit for the part, LARGEST by
-- the fields alone, and at a receiver the one that it keeps
abbrev pub frame_rules : ℕ → List ℕ → List Rule
frame_rules limit s =
    21 when too_short s
    ∷ 22 when wrong_size s
    ∷ 23 when bad_part limit (part_of s)
    ∷ 24 when wrong_crc s
    ∷ 25 when bad_flags (flags_of s)
    ∷ []

-- the number of the first that holds, 0 for none
unfoldable pub frame_fault : ℕ → List ℕ → ℕ
frame_fault limit s = first (frame_rules limit s)

-- the fields that the bytes hold
abbrev pub fields_of : List ℕ → Fields
fields_of s = record { session = session_of s; offset = offset_of s; flags = flags_of s }

unfoldable pub read_frame : List ℕ → Result Fields Refusal
read_frame s = judged (fields_of s) (frame_fault LARGEST s)

abbrev pub told_frame_read : Result Fields Refusal → Told
told_frame_read (Ok f) = accepted (f.session ∷ f.offset ∷ f.flags ∷ [])
told_frame_read (Err e) = refused (number_of e)
