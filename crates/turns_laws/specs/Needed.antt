-- Calls as they come, and a table with all slots due.
-- Assumes nothing.
use Rattle.std.specs.Prelude.{ℕ, ◌≡◌, true, List, [], ◌∷◌, replicate}
use Rattle.turns.specs.Table.{slots}
use Rattle.turns.specs.declared.Table.{Table}
use Rattle.turns_laws.specs.Course.{Call, Exchange, Course}

abbrev pub calls_of : List Exchange → List Call
calls_of [] = []
calls_of (x ∷ xs) = x.call ∷ calls_of xs

-- from table t on there are these calls
abbrev pub Calls : Table → List Call → Type 0
Calls t cs = (xs : List Exchange) × (u : Table) × Course t xs u × (calls_of xs ≡ cs)

-- addresses 1 to 32 in slots 1 to 32, all due
abbrev pub all_due : ℕ → Table
all_due last = record { addresses = slots; due = replicate 32 true; last = last }

-- the slots in turn, where slot 5 was the last one asked
abbrev pub in_turn : List ℕ
in_turn = 6 ∷ 7 ∷ 8 ∷ 9 ∷ 10 ∷ 11 ∷ 12 ∷ 13 ∷ 14 ∷ 15 ∷ 16 ∷ 17 ∷ 18 ∷ 19 ∷ 20 ∷ 21 ∷ 22 ∷ 23 ∷ 24 ∷ 25 ∷ 26 ∷ 27 ∷ 28 ∷ 29 ∷ 30 ∷ 31 ∷ 32 ∷ 1 ∷ 2 ∷ 3 ∷ 4 ∷ 5 ∷ []
