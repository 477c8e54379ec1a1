-- What reading a frame answers: the conditions of the refusal table, their order at the meter and at the master, and the answer.
-- Assumes nothing.
use Rattle.std.specs.Prelude.{ℕ, ◌-◌, Bool, true, false, not, ◌&&◌, ◌||◌, List, [], ◌∷◌, ltb, eqb, length, Result, Ok, Err}
use Rattle.checksum.specs.Crc.{crc}
use Rattle.wire.specs.Answer.{answered}
use Rattle.wire.specs.Numbered.{number_of, refusal as by_number}
use Rattle.wire.specs.Numbers.{is_bcd, field}
use Rattle.wire.specs.Refusal.{Rule, ◌when◌, pick, first}
use Rattle.wire.specs.Told.{Told, accepted, refused, refused_with}
use Rattle.pulsar_frame.specs.Layout.{address_of, function_of, len_of, id_of, crc_of, covered_of}
use Rattle.pulsar_frame.specs.declared.Frame.{Frame}
use Rattle.pulsar_frame.specs.declared.Fault.{Fault}
use Rattle.pulsar_frame.specs.declared.Fault.TheVariants.{Missing, Refused}

-- 1 own address outside 1..99,999,999
abbrev pub bad_own : ℕ → Bool
bad_own own = eqb own 0 || ltb 99999999 own

-- 1 asked address above that, asked function 0
abbrev pub bad_asked : ℕ → ℕ → Bool
bad_asked address function = ltb 99999999 address || eqb function 0

-- 2 fewer than 10 bytes
abbrev pub too_short : List ℕ → Bool
too_short s = ltb (length s) 10

-- 3 ADDRESS not BCD
abbrev pub not_bcd : List ℕ → Bool
not_bcd s = not (is_bcd (field s 0 4))

-- 4 LEN below 10
abbrev pub bad_length : List ℕ → Bool
bad_length s = ltb (len_of s) 10

-- 9 LEN above the bytes received: "a frame still on its way"
abbrev pub on_its_way : List ℕ → Bool
on_its_way s = ltb (length s) (len_of s)

-- "the number of bytes that lack, LEN less those received"; the collector "tells that number if it holds 10 bytes or more, LEN above their count,
-- and otherwise 0" (`-` ends at 0)
abbrev pub missing : List ℕ → ℕ
missing s = pick (too_short s) 0 (len_of s - length s)

-- 5 CRC differs
abbrev pub bad_crc : List ℕ → Bool
bad_crc s = not (eqb (crc_of s) (crc (covered_of s)))

-- 6 not this address (meter: own or 0); "Address 0 is broadcast"
abbrev pub not_mine : ℕ → List ℕ → Bool
not_mine own s = not (eqb (address_of s) own || eqb (address_of s) 0)

-- 6 not this address (.. master: the asked one, and for asked 0 any but 0); broadcast is "in requests only"
abbrev pub not_asked : ℕ → List ℕ → Bool
not_asked address s = not (not (eqb address 0) && eqb (address_of s) address || eqb address 0 && not (eqb (address_of s) 0))

-- 7 meter: function 0
abbrev pub no_function : List ℕ → Bool
no_function s = eqb (function_of s) 0

-- 7 master: function neither the asked one nor 0
abbrev pub other_function : ℕ → List ℕ → Bool
other_function function s = not (eqb (function_of s) function || eqb (function_of s) 0)

-- 8 ID differs
abbrev pub other_id : ℕ → List ℕ → Bool
other_id id s = not (eqb (id_of s) id)

-- "Order is by number, but for: the meter, 1, 2, 3, 4, 9, 5, 6, 7"; 9 stands "directly after 4 in both orders"
abbrev pub meter_rules : ℕ → List ℕ → List Rule
meter_rules own s =
    1 when bad_own own
    ∷ 2 when too_short s
    ∷ 3 when not_bcd s
    ∷ 4 when bad_length s
    ∷ 9 when on_its_way s
    ∷ 5 when bad_crc s
    ∷ 6 when not_mine own s
    ∷ 7 when no_function s
    ∷ []

-- "the master, 1, 2, 3, 6, 7, 4, 9, 5, 8"; here too 9 stands "directly after 4 in both orders"
abbrev pub master_rules : ℕ → ℕ → ℕ → List ℕ → List Rule
master_rules address function id s =
    1 when bad_asked address function
    ∷ 2 when too_short s
    ∷ 3 when not_bcd s
    ∷ 6 when not_asked address s
    ∷ 7 when other_function function s
    ∷ 4 when bad_length s
    ∷ 9 when on_its_way s
    ∷ 5 when bad_crc s
    ∷ 8 when other_id id s
    ∷ []

-- the frame that the bytes hold
abbrev pub frame_of : List ℕ → Frame
frame_of s = record { address = address_of s; function = function_of s; id = id_of s; len = len_of s }

-- the refusal n: "9, with the missing count"
abbrev pub refused_as : Bool → ℕ → ℕ → Fault
refused_as true lack n = Missing lack
refused_as false lack n = Refused (by_number n)

abbrev pub refusal : ℕ → ℕ → Fault
refusal lack n = refused_as (eqb n 9) lack n

-- the answer where the refusal is n, 0 for none
abbrev pub read_answer : List ℕ → ℕ → Result Frame Fault
read_answer s n = answered (λ n. Err (refusal (missing s) n)) (Ok (frame_of s)) n

unfoldable pub read_at_meter : ℕ → List ℕ → Result Frame Fault
read_at_meter own s = read_answer s (first (meter_rules own s))

unfoldable pub read_at_master : ℕ → ℕ → ℕ → List ℕ → Result Frame Fault
read_at_master address function id s = read_answer s (first (master_rules address function id s))

-- the paper's number and values: address, function, ID, LEN; of 9 the missing count
abbrev pub told_frame_read : Result Frame Fault → Told
told_frame_read (Ok f) = accepted (f.address ∷ f.function ∷ f.id ∷ f.len ∷ [])
told_frame_read (Err (Missing lack)) = refused_with 9 (lack ∷ [])
told_frame_read (Err (Refused why)) = refused (number_of why)
