-- A message, and an envelope around it: how a message stands on the line, and what bytes on the line say. The three envelopes are `rtu`, `tcp`
-- of each transaction and, in the room `modbus_ascii`, `ascii`; each has its rules of reading beside it. What they promise is in Promise, once.
-- Assumes nothing.
use Rattle.std.specs.Prelude.{ℕ, ◌+◌, ◌-◌, Bool, List, [], ◌∷◌, ◌++◌, ltb, length, get_or, take, drop}
use Rattle.wire.specs.Refusal.{Rule, ◌when◌, first}
use Rattle.wire.specs.Writes.{Written, write_output, Writes}
use Rattle.modbus.specs.declared.envelope.Message.{Message as ToWrite}

-- the address is TCP's unit
pub record Message : Type 0 where
  pub address : ℕ
  pub function : ℕ
  pub «data» : List ℕ

abbrev pub message : ℕ → ℕ → List ℕ → Message
message address function «data» = record { address = address; function = function; «data» = «data» }

-- as the code is given one to write
abbrev pub message_of : ToWrite → Message
message_of m = message m.address m.function m.«data».now

-- its bytes
abbrev pub content_of : Message → List ℕ
content_of m = m.address ∷ m.function ∷ m.«data»

pub record Envelope : Type 0 where
  -- the bytes before a message's own and those after them: how many, and which, given the message's
  pub before : ℕ
  pub after : ℕ
  pub head : List ℕ → List ℕ
  pub tail : List ℕ → List ℕ
  -- how all of them stand on the line, how many bytes n of them are there, and which they are, given those on the line
  pub on_line : List ℕ → List ℕ
  pub size : ℕ → ℕ
  pub of_line : List ℕ → List ℕ

-- ---- writing

-- head, message, tail
abbrev pub enveloped : List ℕ → List ℕ → List ℕ → List ℕ
enveloped head content tail = head ++ (content ++ tail)

abbrev pub plain_of : Envelope → Message → List ℕ
plain_of e m = enveloped (e.head (content_of m)) (content_of m) (e.tail (content_of m))

unfoldable pub bytes_of : Envelope → Message → List ℕ
bytes_of e m = e.on_line (plain_of e m)

-- the message by which is counted what one needs: with 253 bytes of data at most, as more are refused whatever they need
abbrev pub counted_of : Message → Message
counted_of m = message m.address m.function (take 253 m.«data»)

-- 17 data above 252
abbrev pub too_much : List ℕ → Bool
too_much «data» = ltb 252 (length «data»)

-- 16 output shorter than needed
abbrev pub no_room : ℕ → List ℕ → Bool
no_room needed out = ltb (length out) needed

-- "writing, field faults first, then 17, then 16"
abbrev pub write_rules : List ℕ → ℕ → List ℕ → List Rule
write_rules «data» needed out = 17 when too_much «data» ∷ 16 when no_room needed out ∷ []

-- what an output holds where a message was to be written over its front: at a refusal, what it held
abbrev pub envelope_output : Envelope → Message → List ℕ → List ℕ
envelope_output e m out = write_output (first (write_rules m.«data» (length (bytes_of e m)) out)) (bytes_of e m) out

-- what a writer of a message owes: the answer r and the output out'
abbrev pub WritesEnvelope : Envelope → Message → List ℕ → Written → List ℕ → Type 0
WritesEnvelope e m out r out' = Writes (first (write_rules m.«data» (length (bytes_of e m)) out)) (bytes_of e m) out r out'

-- ---- reading

-- the fields of plain bytes
abbrev pub address_of : ℕ → List ℕ → ℕ
address_of before s = get_or s before 0

abbrev pub function_of : ℕ → List ℕ → ℕ
function_of before s = get_or s (before + 1) 0

abbrev pub data_of : ℕ → ℕ → List ℕ → List ℕ
data_of before after s = take (length s - (before + 2 + after)) (drop (before + 2) s)

-- function and data as one: what Modbus calls the PDU
abbrev pub pdu_of : ℕ → ℕ → List ℕ → List ℕ
pdu_of before after s = take (length s - (before + 1 + after)) (drop (before + 1) s)

-- the message that bytes on the line say
abbrev pub said_by : Envelope → List ℕ → Message
said_by e s = message (address_of e.before (e.of_line s)) (function_of e.before (e.of_line s)) (data_of e.before e.after (e.of_line s))

-- how many bytes on the line a message with n bytes of data is
abbrev pub line_length : Envelope → ℕ → ℕ
line_length e n = e.size (e.before + 2 + n + e.after)

abbrev pub too_short : ℕ → List ℕ → Bool
too_short least s = ltb (length s) least

abbrev pub too_long : ℕ → List ℕ → Bool
too_long most s = ltb most (length s)
