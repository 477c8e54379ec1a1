-- A reply as bytes, and one that says that there is no data.
-- Assumes nothing.
use Rattle.std.specs.Prelude.{ℕ, ◌+◌, List, [], ◌∷◌, ◌++◌, length, get_or, take, drop}
use Rattle.adi.specs.Groups.{groups}
use Rattle.adi.specs.Head.{body_of}

-- ---- a group's fields, and its bytes
abbrev pub length_of : List ℕ → ℕ
length_of g = get_or g 0 0

abbrev pub type_of : List ℕ → ℕ
type_of g = get_or g 1 0

abbrev pub registers_of : List ℕ → List ℕ
registers_of g = take (length_of g) (drop 2 g)

-- "A reply group is its length, the type 6, and that many register bytes"
unfoldable pub group_bytes : List ℕ → List ℕ
group_bytes registers = length registers ∷ 6 ∷ registers

-- ---- a reply's groups, and its bytes

-- the type and so many register bytes follow a group's length, which does not count the type
abbrev pub typed : ℕ → ℕ
typed n = n + 1

abbrev pub groups_of : List ℕ → List (List ℕ)
groups_of s = groups typed (body_of s)

-- of the register bytes of each group
unfoldable pub body_bytes : List (List ℕ) → List ℕ
body_bytes [] = []
body_bytes (r ∷ rs) = group_bytes r ++ body_bytes rs

unfoldable pub reply_bytes : List (List ℕ) → List ℕ
reply_bytes rs = 0x14 ∷ length (body_bytes rs) ∷ body_bytes rs

-- "A reply of only four bytes, function included, no registers, means no data": the byte count and the length, any numbers
abbrev pub no_data_bytes : ℕ → ℕ → List ℕ
no_data_bytes count n = 0x14 ∷ count ∷ n ∷ 6 ∷ []
