-- The ASCII envelope. A character is its code.
-- Assumes nothing.
use Rattle.std.specs.Prelude.{ℕ, ◌+◌, ◌*◌, ◌-◌, ◌%◌, ◌≤◌, ◌≡◌, Bool, not, ◌||◌, List, [], ◌∷◌, ◌++◌, nat_eq, eqb, length, take, drop, Result, Ok, Err}
use Rattle.std.specs.List.{starts_with, ends_with}
use Rattle.checksum.specs.Sums.{sum_from, lrc}
use Rattle.wire.specs.Answer.{answered, refuse}
use Rattle.wire.specs.Numbered.{number_of}
use Rattle.wire.specs.Numbers.{over}
use Rattle.wire.specs.Refusal.{Rule, ◌when◌, first}
use Rattle.wire.specs.Told.{Told, accepted, refused}
use Rattle.wire.specs.Writes.{write_output}
use Rattle.modbus.specs.Envelope.{Message, Envelope, said_by, too_short, too_long, no_room}
use Rattle.modbus_ascii.specs.Hex.{hex, of_hex, all_digits}
use Rattle.modbus_ascii.specs.declared.Ascii.{Ascii}
use Rattle.wire.specs.declared.refusals.Refusal.{Refusal}

-- colon, carriage return, line feed
abbrev pub colon : ℕ
colon = 58

abbrev pub carriage_return : ℕ
carriage_return = 13

abbrev pub line_feed : ℕ
line_feed = 10

-- what stands between the colon and the end marks
unfoldable pub inside : List ℕ → List ℕ
inside s = take (length s - 3) (drop 1 s)

-- 60 under 9 characters
abbrev pub ascii_short : List ℕ → Bool
ascii_short s = too_short 9 s

-- 61 above 513
abbrev pub ascii_long : List ℕ → Bool
ascii_long s = too_long 513 s

-- 62 colon or end marks
abbrev pub bad_marks : List ℕ → Bool
bad_marks s = not (starts_with nat_eq s (colon ∷ [])) || not (ends_with nat_eq s (carriage_return ∷ line_feed ∷ []))

-- 63 a character or an odd count
abbrev pub bad_characters : List ℕ → Bool
bad_characters s = not (all_digits (inside s)) || not (eqb (length (inside s) % 2) 0)

-- 64 LRC: "the sum of all earlier bytes and it is 0 modulo 256"
abbrev pub bad_lrc : List ℕ → Bool
bad_lrc s = not (eqb (sum_from 0 (of_hex (inside s))) 0)

-- "64 LRC; in that order"
abbrev pub ascii_rules : List ℕ → List Rule
ascii_rules s =
    60 when ascii_short s
    ∷ 61 when ascii_long s
    ∷ 62 when bad_marks s
    ∷ 63 when bad_characters s
    ∷ 64 when bad_lrc s
    ∷ []

-- "A frame is a colon, two upper-case hexadecimal characters a byte, carriage return, line feed. Its last byte before the end marks is the LRC"
abbrev pub ascii : Envelope
ascii =
    record {
      before = 0;
      after = 1;
      head = λ c. [];
      tail = λ c. lrc c ∷ [];
      on_line = λ p. colon ∷ (hex p ++ (carriage_return ∷ line_feed ∷ []));
      size = λ n. 3 + 2 * n;
      of_line = λ s. of_hex (inside s);
    }

abbrev pub ascii_data : List ℕ → List ℕ
ascii_data s = (said_by ascii s).«data»

-- and, last, that the data has room in an output
abbrev pub read_rules : List ℕ → List ℕ → List Rule
read_rules s out = ascii_rules s ++ (16 when no_room (length (ascii_data s)) out ∷ [])

-- the answer to a message that is read, and to any characters; and what the output is then
abbrev pub found_ascii : Message → Result Ascii Refusal
found_ascii m = Ok (record { address = m.address; function = m.function; length = length m.«data» })

unfoldable pub read_ascii : List ℕ → List ℕ → Result Ascii Refusal
read_ascii s out = answered refuse (found_ascii (said_by ascii s)) (first (read_rules s out))

unfoldable pub ascii_output : List ℕ → List ℕ → List ℕ
ascii_output s out = write_output (first (read_rules s out)) (ascii_data s) out

-- it reads m: into every output with room for the data, its answer, and the data over the output's front
abbrev pub AsciiAnswers : List ℕ → Message → Type 0
AsciiAnswers s m =
    (out : List ℕ) → length m.«data» ≤ length out → (read_ascii s out ≡ found_ascii m) × (ascii_output s out ≡ over out m.«data»)

abbrev pub told_ascii_read : Result Ascii Refusal → Told
told_ascii_read (Ok e) = accepted (e.address ∷ e.function ∷ e.length ∷ [])
told_ascii_read (Err e) = refused (number_of e)
