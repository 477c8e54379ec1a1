-- What writing a read-file request or reply does.
-- Assumes nothing.
use Rattle.std.specs.Prelude.{ℕ, Bool, List, [], ◌∷◌, ltb, length}
use Rattle.wire.specs.Refusal.{Rule, ◌when◌, first}
use Rattle.wire.specs.Writes.{Written, Writes}
use Rattle.sm160_datagram.specs.Layout.{datagram_bytes}
use Rattle.sm160_read_file.specs.Layout.{REQUEST, REPLY, request_options, reply_options}

-- 36 their lengths: a text of a length that its two bytes do not hold
abbrev pub long_text : List ℕ → Bool
long_text text = ltb 65535 (length text)

-- the bytes of a datagram
abbrev pub request_bytes : ℕ → ℕ → List ℕ → List ℕ
request_bytes offset size name = datagram_bytes REQUEST (request_options offset size name) []

abbrev pub reply_bytes : ℕ → List ℕ → List ℕ → List ℕ
reply_bytes status message content = datagram_bytes REPLY (reply_options status message) content

-- 16 output shorter than needed
abbrev pub no_room : List ℕ → List ℕ → Bool
no_room bytes out = ltb (length out) (length bytes)

-- of bytes with a text: faults of the fields, then 16
abbrev pub write_rules : List ℕ → List ℕ → List ℕ → List Rule
write_rules text bytes out =
    36 when long_text text
    ∷ 16 when no_room bytes out
    ∷ []

-- the answer r, and what the output holds afterwards
abbrev pub WritesRequest : ℕ → ℕ → List ℕ → List ℕ → Written → List ℕ → Type 0
WritesRequest offset size name out r out' =
    Writes (first (write_rules name (request_bytes offset size name) out)) (request_bytes offset size name) out r out'

abbrev pub WritesReply : ℕ → List ℕ → List ℕ → List ℕ → Written → List ℕ → Type 0
WritesReply status message content out r out' =
    Writes (first (write_rules message (reply_bytes status message content) out)) (reply_bytes status message content) out r out'
