-- The TCP envelope. The unit stands in the address's place.
-- Assumes nothing.
use Rattle.std.specs.Prelude.{ℕ, ◌≡◌, Bool, not, List, [], ◌∷◌, ◌++◌, eqb, length, drop, Result, Ok, Err}
use Rattle.wire.specs.Answer.{answered, refuse}
use Rattle.wire.specs.Numbered.{number_of}
use Rattle.wire.specs.Numbers.{be, of_be, field}
use Rattle.wire.specs.Refusal.{Rule, ◌when◌, first}
use Rattle.wire.specs.Told.{Told, accepted, refused}
use Rattle.modbus.specs.Envelope.{Message, Envelope, pdu_of, said_by, too_short, too_long}
use Rattle.modbus.specs.declared.Tcp.{Tcp}
use Rattle.wire.specs.declared.refusals.Refusal.{Refusal}

-- "TCP: transaction 2, protocol 2 (zero), length 2, unit 1, function 1, data 0 to 252; numbers most significant first; length counts all
-- after itself", which is n bytes
unfoldable pub tcp_head : ℕ → ℕ → List ℕ
tcp_head transaction n = be 2 transaction ++ (be 2 0 ++ be 2 n)

-- the fields of the bytes received: "transaction 2, protocol 2 (zero), length 2"
abbrev pub transaction_of : List ℕ → ℕ
transaction_of s = of_be (field s 0 2)

abbrev pub protocol_of : List ℕ → ℕ
protocol_of s = of_be (field s 2 2)

abbrev pub length_of : List ℕ → ℕ
length_of s = of_be (field s 4 2)

-- 40 TCP under 8
abbrev pub tcp_short : List ℕ → Bool
tcp_short s = too_short 8 s

-- 41 TCP above 260
abbrev pub tcp_long : List ℕ → Bool
tcp_long s = too_long 260 s

-- 42 protocol not 0
abbrev pub bad_protocol : List ℕ → Bool
bad_protocol s = not (eqb (protocol_of s) 0)

-- 43 length field differs from the bytes after it
abbrev pub bad_length : List ℕ → Bool
bad_length s = not (eqb (length_of s) (length (drop 6 s)))

-- "Order is by number"
abbrev pub tcp_rules : List ℕ → List Rule
tcp_rules s =
    40 when tcp_short s
    ∷ 41 when tcp_long s
    ∷ 42 when bad_protocol s
    ∷ 43 when bad_length s
    ∷ []

-- the envelope with a transaction
abbrev pub tcp : ℕ → Envelope
tcp transaction =
    record {
      before = 6;
      after = 0;
      head = λ c. tcp_head transaction (length c);
      tail = λ c. [];
      on_line = λ p. p;
      size = λ n. n;
      of_line = λ s. s;
    }

-- the message in bytes received, whose transaction is the one that stands there
abbrev pub tcp_said : List ℕ → Message
tcp_said s = said_by (tcp (transaction_of s)) s

abbrev pub tcp_data : List ℕ → List ℕ
tcp_data s = (tcp_said s).«data»

abbrev pub tcp_pdu : List ℕ → List ℕ
tcp_pdu s = pdu_of (tcp (transaction_of s)).before (tcp (transaction_of s)).after s

-- the answer to a message that is read, and to any bytes
abbrev pub found_tcp : ℕ → Message → Result Tcp Refusal
found_tcp transaction m = Ok (record { transaction = transaction; unit = m.address; function = m.function })

unfoldable pub read_tcp : List ℕ → Result Tcp Refusal
read_tcp s = answered refuse (found_tcp (transaction_of s) (tcp_said s)) (first (tcp_rules s))

-- it reads m with a transaction: its answer, and the data that is handed back
abbrev pub TcpAnswers : ℕ → List ℕ → Message → Type 0
TcpAnswers transaction s m = (read_tcp s ≡ found_tcp transaction m) × (tcp_data s ≡ m.«data»)

abbrev pub told_tcp_read : Result Tcp Refusal → Told
told_tcp_read (Ok e) = accepted (e.transaction ∷ e.unit ∷ e.function ∷ [])
told_tcp_read (Err e) = refused (number_of e)
