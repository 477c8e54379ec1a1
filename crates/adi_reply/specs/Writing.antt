-- What is judged of a reply that is to be written, and what is written.
-- Assumes nothing.
use Rattle.std.specs.Prelude.{ℕ, ◌+◌, ◌*◌, Bool, not, ◌||◌, List, [], ◌∷◌, ◌++◌, eqb, length, take, drop}
use Rattle.wire.specs.InTurn.{in_turn}
use Rattle.wire.specs.Refusal.{Rule, ◌when◌, first}
use Rattle.wire.specs.Writes.{Written, Writes}
use Rattle.adi.specs.Room.{no_room}
use Rattle.adi_reply.specs.Layout.{reply_bytes, no_data_bytes}
use Rattle.adi_reply.specs.Reading.{not4to245, not_even_from2}

-- groups as they are given, their lengths and all their register bytes: those of each
unfoldable pub cut : List ℕ → List ℕ → List (List ℕ)
cut [] registers = []
cut (n ∷ ns) registers = take n registers ∷ cut ns (drop n registers)

-- how many register bytes the lengths say
unfoldable pub total : List ℕ → ℕ
total [] = 0
total (n ∷ ns) = n + total ns

-- the byte count: each group has two bytes more
abbrev pub count_for : List ℕ → ℕ
count_for ns = length ns * 2 + total ns

-- 80 byte count .. (a reply's .. 4 to 245); or not so many register bytes as the lengths say
abbrev pub bad_number : List ℕ → List ℕ → Bool
bad_number ns registers = not4to245 (count_for ns) || not (eqb (total ns) (length registers))

abbrev pub length_rules : ℕ → List Rule
length_rules n = 83 when not_even_from2 n ∷ []

-- the type is made
abbrev pub judge_rules : List ℕ → List ℕ → List Rule
judge_rules ns registers = 80 when bad_number ns registers ∷ in_turn length_rules ns

abbrev pub write_rules : List ℕ → List ℕ → List ℕ → List Rule
write_rules ns registers out = judge_rules ns registers ++ (16 when no_room (reply_bytes (cut ns registers)) out ∷ [])

abbrev pub WritesReply : List ℕ → List ℕ → List ℕ → Written → List ℕ → Type 0
WritesReply ns registers out r out' = Writes (first (write_rules ns registers out)) (reply_bytes (cut ns registers)) out r out'

abbrev pub no_data_rules : ℕ → ℕ → List ℕ → List Rule
no_data_rules count n out = 16 when no_room (no_data_bytes count n) out ∷ []

abbrev pub WritesNoData : ℕ → ℕ → List ℕ → Written → List ℕ → Type 0
WritesNoData count n out r out' = Writes (first (no_data_rules count n out)) (no_data_bytes count n) out r out'
