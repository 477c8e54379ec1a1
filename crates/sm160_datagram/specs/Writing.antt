-- What writing a datagram does: type, options and data are given; the lengths and the CRC-32 are made.
-- Assumes nothing.
use Rattle.std.specs.Prelude.{ℕ, ◌+◌, Bool, List, [], ◌∷◌, ltb, length}
use Rattle.wire.specs.Refusal.{Rule, ◌when◌, first}
use Rattle.wire.specs.Writes.{Written, Writes}
use Rattle.sm160_datagram.specs.Layout.{datagram_bytes}

-- 37 lengths disagree: options of a length that its four bytes do not hold
abbrev pub long_options : List ℕ → Bool
long_options options = ltb 4294967295 (length options)

-- 16 output shorter than needed: 18, the options and the data
abbrev pub no_room : List ℕ → List ℕ → List ℕ → Bool
no_room options content out = ltb (length out) (length options + length content + 18)

-- "Read and write the envelope": faults of the fields, then 16
abbrev pub write_rules : List ℕ → List ℕ → List ℕ → List Rule
write_rules options content out =
    37 when long_options options
    ∷ 16 when no_room options content out
    ∷ []

-- the answer r, and what the output holds afterwards
abbrev pub WritesDatagram : ℕ → List ℕ → List ℕ → List ℕ → Written → List ℕ → Type 0
WritesDatagram type options content out r out' = Writes (first (write_rules options content out)) (datagram_bytes type options content) out r out'
