-- Numbers as bytes: least significant first, most significant first, and two decimal digits a byte; and the bytes at a place.
-- Assumes nothing.
use Rattle.std.specs.Prelude.{ℕ, zero, suc, ◌+◌, ◌*◌, ◌/◌, ◌%◌, Bool, true, ◌&&◌, List, [], ◌∷◌, ◌++◌, map, reverse, ltb, length, get_or, drop}

-- the w lowest digits of v, least significant first, and the number that digits say
unfoldable pub digits : ℕ → ℕ → ℕ → List ℕ
digits base zero v = []
digits base (suc w) v = v % base ∷ digits base w (v / base)

unfoldable pub number : ℕ → List ℕ → ℕ
number base [] = 0
number base (d ∷ ds) = d + base * number base ds

-- least significant byte first
unfoldable pub le : ℕ → ℕ → List ℕ
le w v = digits 256 w v

unfoldable pub of_le : List ℕ → ℕ
of_le bs = number 256 bs

-- most significant byte first
unfoldable pub be : ℕ → ℕ → List ℕ
be w v = reverse (digits 256 w v)

unfoldable pub of_be : List ℕ → ℕ
of_be bs = number 256 (reverse bs)

-- two decimal digits in a byte
abbrev pub bcd_byte : ℕ → ℕ
bcd_byte d = d / 10 * 16 + d % 10

abbrev pub of_bcd_byte : ℕ → ℕ
of_bcd_byte b = b / 16 * 10 + b % 16

abbrev pub is_bcd_byte : ℕ → Bool
is_bcd_byte b = ltb (b / 16) 10 && ltb (b % 16) 10

-- BCD, most significant byte first
unfoldable pub bcd : ℕ → ℕ → List ℕ
bcd w v = reverse (map bcd_byte (digits 100 w v))

unfoldable pub of_bcd : List ℕ → ℕ
of_bcd bs = number 100 (map of_bcd_byte (reverse bs))

unfoldable pub is_bcd : List ℕ → Bool
is_bcd [] = true
is_bcd (b ∷ bs) = is_bcd_byte b && is_bcd bs

-- the w bytes of s from place at; a byte past the end reads as 0
unfoldable pub field : List ℕ → ℕ → ℕ → List ℕ
field s at zero = []
field s at (suc w) = get_or s at 0 ∷ field s (at + 1) w

-- out with bs written over its front
unfoldable pub over : List ℕ → List ℕ → List ℕ
over out bs = bs ++ drop (length bs) out
