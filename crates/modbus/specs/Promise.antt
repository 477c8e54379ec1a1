-- What every envelope promises: reading, reading back and writing again, each said once.
-- Assumes nothing.
use Rattle.std.specs.Prelude.{ℕ, ◌≤◌, ◌≡◌, List, length, take, Ok}
use Rattle.wire.specs.Each.{Bytes}
use Rattle.wire.specs.Numbers.{over}
use Rattle.wire.specs.Refusal.{Rule, NoneHolds}
use Rattle.wire.specs.Writes.{Written}
use Rattle.modbus.specs.Envelope.{Message, Envelope, content_of, bytes_of, said_by, WritesEnvelope}

-- the numbers of a message are bytes
abbrev pub Fits : Message → Type 0
Fits m = Bytes (content_of m)

-- no rule of reading refuses the bytes s, they say m, and begin as m would
pub record Carries (e : Envelope) (rules : List ℕ → List Rule) (s : List ℕ) (m : Message) : Type 0 where
  pub accepted : NoneHolds (rules s)
  pub says : said_by e s ≡ m
  pub begins : e.head (content_of m) ≡ take e.before (e.of_line s)

-- ---- the promises. `Answers s m` is what the envelope's reader answers of s where it reads the message m

-- reading: it reads m just where the bytes carry m
abbrev pub Finds : Envelope → (List ℕ → List Rule) → (List ℕ → Message → Type 0) → Type 0
Finds e rules Answers =
    (s : List ℕ) (m : Message) → (Carries e rules s m → Answers s m) × (Bytes s → Answers s m → Carries e rules s m)

-- the bytes that carry m are its own and no other, and they do just where its data is of 0 to 252 bytes
abbrev pub OneEnvelope : Envelope → (List ℕ → List Rule) → Type 0
OneEnvelope e rules =
    ((m : Message) → Fits m → length m.«data» ≤ 252 → Carries e rules (bytes_of e m) m)
    × ((s : List ℕ) (m : Message) → Bytes s → Carries e rules s m → (s ≡ bytes_of e m) × Fits m × (length m.«data» ≤ 252))

-- reading back: where a writer answers a length, the output's front of that length reads as the message written
abbrev pub ReadsBack : Envelope → (List ℕ → Message → Type 0) → Type 0
ReadsBack e Answers =
    (m : Message) (out : List ℕ) (r : Written) (out' : List ℕ) (k : ℕ) → Fits m → WritesEnvelope e m out r out' → r ≡ Ok k → Answers (take k out') m

-- writing again: a message that was read, written into an output with room, is the bytes received
abbrev pub WritesAgain : Envelope → (List ℕ → Message → Type 0) → Type 0
WritesAgain e Answers =
    (s : List ℕ) (m : Message) (out : List ℕ) (r : Written) (out' : List ℕ) → Bytes s → Answers s m → length s ≤ length out → WritesEnvelope e m out r out'
    → (r ≡ Ok (length s)) × (out' ≡ over out s)
