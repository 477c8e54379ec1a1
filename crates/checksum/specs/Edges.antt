-- 01's edges of the checksum: of nothing FFFF; of byte 00, 40BF; of ASCII 123456789, 4B37.
-- Assumes nothing.
use Rattle.std.specs.Prelude.{ℕ, List, [], ◌∷◌}
use Rattle.wire.specs.Told.{Told, accepted, Edge, ◌gives◌}
use Rattle.checksum.specs.Crc.{crc}

abbrev pub summed : List ℕ → Told
summed bs = accepted (crc bs ∷ [])

abbrev pub checksum_edges : List Edge
checksum_edges =
    summed [] gives accepted (0xFFFF ∷ [])
    ∷ summed (0 ∷ []) gives accepted (0x40BF ∷ [])
    ∷ summed (0x31 ∷ 0x32 ∷ 0x33 ∷ 0x34 ∷ 0x35 ∷ 0x36 ∷ 0x37 ∷ 0x38 ∷ 0x39 ∷ []) gives accepted (0x4B37 ∷ [])
    ∷ []
