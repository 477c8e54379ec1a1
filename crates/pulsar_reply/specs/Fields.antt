-- The conditions that reading and writing a reply share.
-- Assumes nothing.
use Rattle.std.specs.Prelude.{ℕ, Bool, not, ◌||◌, List, [], ◌∷◌, eqb, ltb, get_or}
use Rattle.wire.specs.Refusal.{Rule, ◌when◌}
use Rattle.date.specs.Date.{is_date, is_no_date}
use Rattle.date.specs.declared.DateTime.{DateTime}
use Rattle.pulsar_body.specs.Fields.{not_one, not_date}

-- 13 a date field out of range; no date is good: "this is accepted only in a clock reply"
abbrev pub not_clock : DateTime → Bool
not_clock d = not (is_date d || is_no_date d)

-- 15 status or zeros wrong: "status 0 or 1"
abbrev pub bad_status : ℕ → Bool
bad_status status = ltb 1 status

-- a byte not 0 where a zero belongs
abbrev pub not_zero : List ℕ → ℕ → Bool
not_zero s at = not (eqb (get_or s at 0) 0)

-- 15 status or zeros wrong: "three zeros" after a status
abbrev pub not_three_zeros : List ℕ → Bool
not_three_zeros s = not_zero s 1 || not_zero s 2 || not_zero s 3

-- 15 status or zeros wrong: "2 zero bytes" of an 0B reply
abbrev pub not_two_zeros : List ℕ → Bool
not_two_zeros s = not_zero s 0 || not_zero s 1

-- the fields of an 06 reply, the earlier judged first
abbrev pub archive_faults : ℕ → DateTime → List Rule
archive_faults mask from = 12 when not_one mask ∷ 13 when not_date from ∷ []
