-- Fields of given widths in bits, one after the other, most significant bit first. The widths are the layout: what is written and what
-- is read both follow from them.
-- Assumes nothing.
use Rattle.std.specs.Prelude.{ℕ, ◌+◌, ◌^◌, ◌<◌, List, [], ◌∷◌, ◌++◌, get_or, drop}
use Rattle.wire.specs.Numbers.{field}
use Rattle.bits.specs.Bits.{bits, of_bits, bits_in, bytes_of}

-- the bits of the fields' values, joined; a value that is missing is 0
unfoldable pub joined : List ℕ → List ℕ → List ℕ
joined [] vs = []
joined (w ∷ ws) vs = bits w (get_or vs 0 0) ++ joined ws (drop 1 vs)

-- the n bytes of the fields' values
abbrev pub packed : ℕ → List ℕ → List ℕ → List ℕ
packed n ws vs = bytes_of n (joined ws vs)

-- the values of the fields that begin at a place among bits; a bit past the end is 0
unfoldable pub values_from : List ℕ → ℕ → List ℕ → List ℕ
values_from [] at bs = []
values_from (w ∷ ws) at bs = of_bits (field bs at w) ∷ values_from ws (at + w) bs

-- the values of the fields of bytes
abbrev pub unpacked : List ℕ → List ℕ → List ℕ
unpacked ws s = values_from ws 0 (bits_in s)

-- how many bits the fields have
unfoldable pub total : List ℕ → ℕ
total [] = 0
total (w ∷ ws) = w + total ws

-- there is a value for each width, and it fits
abbrev pub Fit : List ℕ → List ℕ → Type 0
Fit [] [] = Unit {0}
Fit [] (v ∷ vs) = ⊥
Fit (w ∷ ws) [] = ⊥
Fit (w ∷ ws) (v ∷ vs) = (v < 2 ^ w) × Fit ws vs
