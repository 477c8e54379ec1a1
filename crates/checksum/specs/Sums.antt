-- The LRC of Modbus ASCII: a byte that closes a sum.
-- Assumes nothing.
use Rattle.std.specs.Prelude.{ℕ, ◌+◌, ◌-◌, ◌%◌, List, [], ◌∷◌}

unfoldable pub total : List ℕ → ℕ
total [] = 0
total (b ∷ bs) = b + total bs

-- the sum of a message's bytes modulo 256, after the sum c of those before them
abbrev pub sum_from : ℕ → List ℕ → ℕ
sum_from c bs = (c + total bs) % 256

-- "the LRC: the sum of all earlier bytes and it is 0 modulo 256": of earlier bytes with the sum c, and of the bytes themselves
abbrev pub closing : ℕ → ℕ
closing c = (256 - c) % 256

abbrev pub lrc : List ℕ → ℕ
lrc bs = closing (sum_from 0 bs)
