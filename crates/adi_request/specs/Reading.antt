-- What is judged of a request, and what is answered.
-- Assumes nothing.
use Rattle.std.specs.Prelude.{ℕ, ◌%◌, Bool, not, ◌||◌, cond, List, [], ◌∷◌, eqb, ltb, length, Option, None, Some, Result, Ok, Err}
use Rattle.wire.specs.Answer.{judged}
use Rattle.wire.specs.InTurn.{in_turn}
use Rattle.wire.specs.Refusal.{Rule, ◌when◌, first}
use Rattle.wire.specs.Told.{Told, accepted, refused}
use Rattle.adi.specs.Groups.{at_place}
use Rattle.adi.specs.Head.{count_of, not_function, other_count}
use Rattle.adi_request.specs.Layout.{type_of, file_of, record_of, length_of, asked_of, groups_of}
use Rattle.adi_request.specs.declared.Asked.{Asked}
use Rattle.wire.specs.Numbered.{number_of}
use Rattle.wire.specs.declared.refusals.Refusal.{Refusal}

-- of a byte count
abbrev pub not_sevens : ℕ → Bool
not_sevens n = ltb n 7 || ltb 245 n || not (eqb (n % 7) 0)

-- 80 byte count none, not the bytes after it, or not 7 to 245 by sevens
abbrev pub bad_count : List ℕ → Bool
bad_count s = other_count s || not_sevens (count_of s)

-- "file from 1, record 0 to 9999"
abbrev pub bad_record : ℕ → ℕ → Bool
bad_record file number = eqb file 0 || ltb 9999 number

-- "length in registers from 1"
abbrev pub no_length : ℕ → Bool
no_length n = eqb n 0

-- 81 type missing or not 6
abbrev pub other_type : List ℕ → Bool
other_type g = not (eqb (type_of g) 6)

-- 82 file or record
abbrev pub bad_record_in : List ℕ → Bool
bad_record_in g = bad_record (file_of g) (record_of g)

-- 83 group length
abbrev pub no_length_in : List ℕ → Bool
no_length_in g = no_length (length_of g)

-- "then group by group"
abbrev pub group_rules : List ℕ → List Rule
group_rules g = 81 when other_type g ∷ 82 when bad_record_in g ∷ 83 when no_length_in g ∷ []

abbrev pub request_rules : List ℕ → List Rule
request_rules s = 10 when not_function s ∷ 80 when bad_count s ∷ in_turn group_rules (groups_of s)

-- how many groups
unfoldable pub read_request : List ℕ → Result ℕ Refusal
read_request s = judged (length (groups_of s)) (first (request_rules s))

-- a group that is not there, or not whole, asks for nothing
abbrev pub wholly : List ℕ → Option Asked
wholly g = cond (ltb (length g) 7) None (Some (asked_of g))

unfoldable pub asked_at : List ℕ → ℕ → Option Asked
asked_at s place = wholly (at_place [] (groups_of s) place)

abbrev pub told_request : Result ℕ Refusal → Told
told_request (Ok n) = accepted (n ∷ [])
told_request (Err e) = refused (number_of e)
