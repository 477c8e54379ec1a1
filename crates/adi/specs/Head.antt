-- What a request and a reply of function 14 (hexadecimal) begin with: the function and the byte count.
-- Assumes nothing.
use Rattle.std.specs.Prelude.{ℕ, Bool, not, List, eqb, length, get_or, drop}

-- the byte count, and the bytes after it
abbrev pub count_of : List ℕ → ℕ
count_of s = get_or s 1 0

abbrev pub body_of : List ℕ → List ℕ
body_of s = drop 2 s

-- 10 function none or not 14
abbrev pub not_function : List ℕ → Bool
not_function s = not (eqb (get_or s 0 0) 0x14)

-- not the bytes after it: a byte count that is not there is 0, which is too few for both
abbrev pub other_count : List ℕ → Bool
other_count s = not (eqb (count_of s) (length (body_of s)))
