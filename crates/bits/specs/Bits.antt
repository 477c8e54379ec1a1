-- Numbers as bits, most significant first; and bytes as bits.
-- Assumes nothing.
use Rattle.std.specs.Prelude.{ℕ, zero, suc, ◌<◌, List, [], ◌∷◌, ◌++◌, reverse, drop}
use Rattle.wire.specs.Numbers.{digits, number, field}

-- 0 or 1
abbrev pub Bit : ℕ → Type 0
Bit b = b < 2

-- the w lowest bits of v, most significant first, and the number that bits say
unfoldable pub bits : ℕ → ℕ → List ℕ
bits w v = reverse (digits 2 w v)

unfoldable pub of_bits : List ℕ → ℕ
of_bits bs = number 2 (reverse bs)

-- the bits of bytes, and the n bytes that bits say
unfoldable pub bits_in : List ℕ → List ℕ
bits_in [] = []
bits_in (b ∷ bs) = bits 8 b ++ bits_in bs

unfoldable pub bytes_of : ℕ → List ℕ → List ℕ
bytes_of zero bs = []
bytes_of (suc n) bs = of_bits (field bs 0 8) ∷ bytes_of n (drop 8 bs)
