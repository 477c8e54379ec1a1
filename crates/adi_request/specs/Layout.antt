-- A request as bytes. Numbers are most significant byte first.
-- Assumes nothing.
use Rattle.std.specs.Prelude.{ℕ, ◌*◌, List, [], ◌∷◌, ◌++◌, length, get_or}
use Rattle.wire.specs.Numbers.{be, of_be, field}
use Rattle.adi.specs.Groups.{groups}
use Rattle.adi.specs.Head.{body_of}
use Rattle.adi_request.specs.declared.Asked.{Asked}

-- ---- a group's fields, and its bytes
abbrev pub type_of : List ℕ → ℕ
type_of g = get_or g 0 0

abbrev pub file_of : List ℕ → ℕ
file_of g = of_be (field g 1 2)

abbrev pub record_of : List ℕ → ℕ
record_of g = of_be (field g 3 2)

abbrev pub length_of : List ℕ → ℕ
length_of g = of_be (field g 5 2)

abbrev pub asked_of : List ℕ → Asked
asked_of g = record { file = file_of g; «record» = record_of g; length = length_of g }

-- "A request has 7 bytes a group: type 6"
unfoldable pub group_bytes : Asked → List ℕ
group_bytes a = 6 ∷ (be 2 a.file ++ (be 2 a.«record» ++ be 2 a.length))

-- ---- a request's groups, and its bytes

-- six bytes of a group follow its type
abbrev pub six : ℕ → ℕ
six _ = 6

abbrev pub groups_of : List ℕ → List (List ℕ)
groups_of s = groups six (body_of s)

unfoldable pub body_bytes : List Asked → List ℕ
body_bytes [] = []
body_bytes (a ∷ asks) = group_bytes a ++ body_bytes asks

unfoldable pub request_bytes : List Asked → List ℕ
request_bytes asks = 0x14 ∷ (length asks * 7) ∷ body_bytes asks
