-- The last that a writer judges: the room that its output has for the bytes.
-- Assumes nothing.
use Rattle.std.specs.Prelude.{ℕ, Bool, List, ltb, length}

-- 16 output shorter than needed
abbrev pub no_room : List ℕ → List ℕ → Bool
no_room bytes out = ltb (length out) (length bytes)
