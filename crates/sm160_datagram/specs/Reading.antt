-- What a datagram is judged by, and what reading it answers.
-- Assumes nothing.
use Rattle.std.specs.Prelude.{ℕ, ◌+◌, Bool, not, ◌||◌, List, [], ◌∷◌, ltb, eqb, length, Result, Ok, Err}
use Rattle.wire.specs.Refusal.{Rule, ◌when◌, first}
use Rattle.wire.specs.Answer.{judged}
use Rattle.wire.specs.Numbered.{number_of}
use Rattle.wire.specs.declared.refusals.Refusal.{Refusal}
use Rattle.wire.specs.Told.{Told, accepted, refused}
use Rattle.sm160_datagram.specs.Layout.{type_of, flag_of, options_length_of, data_length_of, crc_of, crc_due}

-- n bytes, and the two lengths that they tell, which are summed as numbers: no sum wraps
abbrev pub differ : ℕ → ℕ → ℕ → Bool
differ n options content = ltb n 18 || not (eqb (18 + options + content) n)

-- 37 under 18 bytes or lengths disagree
abbrev pub bad_lengths : List ℕ → Bool
bad_lengths d = differ (length d) (options_length_of d) (data_length_of d)

-- 38 CRC-32 differs
abbrev pub wrong_crc : List ℕ → Bool
wrong_crc d = not (eqb (crc_of d) (crc_due d))

-- 39 compression flag not 0
abbrev pub compressed : List ℕ → Bool
compressed d = not (eqb (flag_of d) 0)

-- by number
abbrev pub datagram_rules : List ℕ → List Rule
datagram_rules d =
    37 when bad_lengths d
    ∷ 38 when wrong_crc d
    ∷ 39 when compressed d
    ∷ []

-- the number of the first that holds; 0 for none, and then it is "a well-formed datagram, one that meets none of 37 to 39"
unfoldable pub datagram_fault : List ℕ → ℕ
datagram_fault d = first (datagram_rules d)

-- "Read and write the envelope": the answer is the type
unfoldable pub read_datagram : List ℕ → Result ℕ Refusal
read_datagram d = judged (type_of d) (datagram_fault d)

abbrev pub told_datagram_read : Result ℕ Refusal → Told
told_datagram_read (Ok type) = accepted (type ∷ [])
told_datagram_read (Err e) = refused (number_of e)
