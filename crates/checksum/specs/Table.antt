-- The tables of sixteen entries: four bits of each remainder below 16.
-- Assumes nothing.
use Rattle.std.specs.Prelude.{ℕ, zero, suc, List, [], ◌∷◌}
use Rattle.checksum.specs.Crc.{crc_bits}

-- f of n numbers from k on
abbrev pub entries : (ℕ → ℕ) → ℕ → ℕ → List ℕ
entries f k zero = []
entries f k (suc n) = f k ∷ entries f (suc k) n

-- "Use 16 entries"
unfoldable pub fours : ℕ → List ℕ
fours poly = entries (crc_bits poly 4) 0 16
