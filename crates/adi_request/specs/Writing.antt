-- What is judged of groups that are to be written, and what is written.
-- Assumes nothing.
use Rattle.std.specs.Prelude.{ℕ, ◌*◌, Bool, List, [], ◌∷◌, ◌++◌, map, length, get_or}
use Rattle.wire.specs.InTurn.{in_turn}
use Rattle.wire.specs.Refusal.{Rule, ◌when◌, first}
use Rattle.wire.specs.Writes.{Written, Writes}
use Rattle.adi.specs.Room.{no_room}
use Rattle.adi_request.specs.Layout.{request_bytes}
use Rattle.adi_request.specs.Reading.{not_sevens, bad_record, no_length}
use Rattle.adi_request.specs.declared.Asked.{Asked}

-- groups as they are given: file, record and length of each
abbrev pub given_by : List ℕ → Asked
given_by g = record { file = get_or g 0 0; «record» = get_or g 1 0; length = get_or g 2 0 }

abbrev pub given : List (List ℕ) → List Asked
given gs = map given_by gs

-- 80 byte count .. not 7 to 245 by sevens: no group, or above 35
abbrev pub bad_number : List Asked → Bool
bad_number asks = not_sevens (length asks * 7)

-- 82 file or record
abbrev pub bad_record_of : Asked → Bool
bad_record_of a = bad_record a.file a.«record»

-- 83 group length
abbrev pub no_length_of : Asked → Bool
no_length_of a = no_length a.length

abbrev pub asked_rules : Asked → List Rule
asked_rules a = 82 when bad_record_of a ∷ 83 when no_length_of a ∷ []

-- the type is made
abbrev pub judge_rules : List Asked → List Rule
judge_rules asks = 80 when bad_number asks ∷ in_turn asked_rules asks

abbrev pub write_rules : List Asked → List ℕ → List Rule
write_rules asks out = judge_rules asks ++ (16 when no_room (request_bytes asks) out ∷ [])

abbrev pub WritesRequest : List Asked → List ℕ → Written → List ℕ → Type 0
WritesRequest asks out r out' = Writes (first (write_rules asks out)) (request_bytes asks) out r out'
