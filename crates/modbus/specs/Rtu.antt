-- The RTU envelope. CRC is the last two bytes received, and covers all before it.
-- Assumes nothing.
use Rattle.std.specs.Prelude.{ℕ, ◌-◌, ◌≡◌, Bool, not, List, [], ◌∷◌, eqb, length, take, Result, Ok, Err}
use Rattle.checksum.specs.Crc.{crc}
use Rattle.wire.specs.Answer.{answered, refuse}
use Rattle.wire.specs.Numbered.{number_of}
use Rattle.wire.specs.Numbers.{le, of_le, field}
use Rattle.wire.specs.Refusal.{Rule, ◌when◌, first}
use Rattle.wire.specs.Told.{Told, accepted, refused}
use Rattle.modbus.specs.Envelope.{Message, Envelope, pdu_of, said_by, too_short, too_long}
use Rattle.modbus.specs.declared.Rtu.{Rtu}
use Rattle.wire.specs.declared.refusals.Refusal.{Refusal}

-- the last two bytes received, and what they cover
abbrev pub crc_of : List ℕ → ℕ
crc_of s = of_le (field s (length s - 2) 2)

abbrev pub covered_of : List ℕ → List ℕ
covered_of s = take (length s - 2) s

-- 40 RTU under 4 bytes
abbrev pub rtu_short : List ℕ → Bool
rtu_short s = too_short 4 s

-- 41 RTU above 256
abbrev pub rtu_long : List ℕ → Bool
rtu_long s = too_long 256 s

-- 44 RTU CRC differs
abbrev pub bad_crc : List ℕ → Bool
bad_crc s = not (eqb (crc_of s) (crc (covered_of s)))

-- "Order is by number"
abbrev pub rtu_rules : List ℕ → List Rule
rtu_rules s = 40 when rtu_short s ∷ 41 when rtu_long s ∷ 44 when bad_crc s ∷ []

-- "RTU: address, function, data 0 to 252, CRC." "It is sent low byte first." "The same rule serves Pulsar-M and Modbus RTU."
abbrev pub rtu : Envelope
rtu =
    record {
      before = 0;
      after = 2;
      head = λ c. [];
      tail = λ c. le 2 (crc c);
      on_line = λ p. p;
      size = λ n. n;
      of_line = λ s. s;
    }

abbrev pub rtu_data : List ℕ → List ℕ
rtu_data s = (said_by rtu s).«data»

abbrev pub rtu_pdu : List ℕ → List ℕ
rtu_pdu s = pdu_of rtu.before rtu.after s

-- the answer to a message that is read, and to any bytes
abbrev pub found_rtu : Message → Result Rtu Refusal
found_rtu m = Ok (record { address = m.address; function = m.function })

unfoldable pub read_rtu : List ℕ → Result Rtu Refusal
read_rtu s = answered refuse (found_rtu (said_by rtu s)) (first (rtu_rules s))

-- it reads m: its answer, and the data that is handed back
abbrev pub RtuAnswers : List ℕ → Message → Type 0
RtuAnswers s m = (read_rtu s ≡ found_rtu m) × (rtu_data s ≡ m.«data»)

abbrev pub told_rtu_read : Result Rtu Refusal → Told
told_rtu_read (Ok e) = accepted (e.address ∷ e.function ∷ [])
told_rtu_read (Err e) = refused (number_of e)
