-- Bytes as characters.
-- Assumes nothing.
use Rattle.std.specs.Prelude.{ℕ, ◌+◌, ◌*◌, ◌/◌, ◌%◌, Bool, List, [], ◌∷◌}
use Rattle.std.specs.List.{list_all}
use Rattle.wire.specs.Digits.{digit, digit_of, is_digit}

-- "two upper-case hexadecimal characters a byte"
unfoldable pub hex : List ℕ → List ℕ
hex [] = []
hex (b ∷ bs) = digit (b / 16) ∷ digit (b % 16) ∷ hex bs

-- the byte that two digits are (of other characters, any byte), and the bytes that characters are, two by two
abbrev pub byte_of : ℕ → ℕ → ℕ
byte_of h l = (digit_of h * 16 + digit_of l) % 256

unfoldable pub of_hex : List ℕ → List ℕ
of_hex [] = []
of_hex (c ∷ []) = []
of_hex (h ∷ l ∷ cs) = byte_of h l ∷ of_hex cs

abbrev pub all_digits : List ℕ → Bool
all_digits cs = list_all is_digit cs
