-- What writing a frame by its fields alone does: session, offset, flags and the part are given; part size and CRC16 are made.
-- Assumes nothing.
use Rattle.std.specs.Prelude.{ℕ, ◌+◌, Bool, List, [], ◌∷◌, ltb, length}
use Rattle.wire.specs.Refusal.{Rule, ◌when◌, first}
use Rattle.wire.specs.Writes.{Written, Writes}
use Rattle.sm160_frame.specs.Layout.{frame_bytes}
use Rattle.sm160_frame.specs.Reading.{LARGEST, bad_part, bad_flags}

-- 16 output shorter than needed: 12 and the part
abbrev pub no_room : List ℕ → List ℕ → Bool
no_room part out = ltb (length out) (length part + 12)

-- "A frame is also read and written by its fields alone, under 16 and 21 to 25": faults of the fields, then 16
abbrev pub write_rules : ℕ → List ℕ → List ℕ → List Rule
write_rules flags part out =
    23 when bad_part LARGEST part
    ∷ 25 when bad_flags flags
    ∷ 16 when no_room part out
    ∷ []

-- the answer r, and what the output holds afterwards
abbrev pub WritesFrame : ℕ → ℕ → ℕ → List ℕ → List ℕ → Written → List ℕ → Type 0
WritesFrame session offset flags part out r out' = Writes (first (write_rules flags part out)) (frame_bytes session offset flags part) out r out'
