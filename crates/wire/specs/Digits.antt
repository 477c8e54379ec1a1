-- Text as bytes, and the sixteen digits in it, whose letters are upper case.
-- Assumes nothing.
use Rattle.std.specs.Prelude.{ℕ, suc, Bool, List, [], ◌∷◌, ltb, eqb, get_or}
use Prim.Native.Char.{code}
use Prim.Native.String as S
use Rattle.wire.specs.Refusal.{pick}

-- the characters of a text, each by its code
unfoldable pub ascii : S.String → List ℕ
ascii S.[] = []
ascii (S.◌∷◌ c cs) = code c ∷ ascii cs

-- where x stands first in a list, and the list's length where it does not
unfoldable pub place_in : List ℕ → ℕ → ℕ
place_in [] x = 0
place_in (y ∷ ys) x = pick (eqb x y) 0 (suc (place_in ys x))

-- the digit of d, which is below 16: "upper-case hexadecimal digits"
unfoldable pub digit : ℕ → ℕ
digit d = get_or (ascii "0123456789ABCDEF") d 0

-- the number whose digit is c, and 16 where c is none: "Lower case is refused"
unfoldable pub digit_of : ℕ → ℕ
digit_of c = place_in (ascii "0123456789ABCDEF") c

abbrev pub is_digit : ℕ → Bool
is_digit c = ltb (digit_of c) 16
