-- A table of 32 meter slots, the searches in it, and what makes it unfit. Slots count from 1.
-- Assumes nothing.
use Rattle.std.specs.Prelude.{ℕ, zero, suc, ◌+◌, ◌-◌, ◌%◌, ◌≤◌, Bool, false, not, ◌||◌, ◌&&◌, List, [], ◌∷◌, ltb, eqb, get_or, set, replicate, Option, None, Some}
use Rattle.wire.specs.Refusal.{pick}
use Rattle.turns.specs.declared.Table.{Table}

-- "up to 32 meter slots, each empty or with an address, due or not": the address in slot k, 0 where it is empty; whether it is empty, and due
abbrev pub address_in : List ℕ → ℕ → ℕ
address_in addresses k = get_or addresses (k - 1) 0

abbrev pub due_in : List Bool → ℕ → Bool
due_in due k = get_or due (k - 1) false

abbrev pub empty_in : List ℕ → ℕ → Bool
empty_in addresses k = eqb (address_in addresses k) 0

abbrev pub address_of : Table → ℕ → ℕ
address_of t k = address_in t.addresses k

abbrev pub is_due : Table → ℕ → Bool
is_due t k = due_in t.due k

-- slots are 1 to 32
abbrev pub IsSlot : ℕ → Type 0
IsSlot k = (1 ≤ k) × (k ≤ 32)

-- "A new table has last asked slot 32": all its slots are empty
abbrev pub fresh : Table
fresh = record { addresses = replicate 32 0; due = replicate 32 false; last = 32 }

-- ---- searches

-- "going round": the slot after slot k, after slot 32 slot 1; the n slots after it; and all, slot k itself the last
abbrev pub after : ℕ → ℕ
after k = k % 32 + 1

unfoldable pub onward : ℕ → ℕ → List ℕ
onward k zero = []
onward k (suc n) = after k ∷ onward (after k) n

abbrev pub round : ℕ → List ℕ
round k = onward k 32

-- all slots, the lowest first
abbrev pub slots : List ℕ
slots = round 32

-- of slots, the first that passes a test, 0 for none
unfoldable pub first_of : (ℕ → Bool) → List ℕ → ℕ
first_of test [] = 0
first_of test (k ∷ ks) = pick (test k) k (first_of test ks)

-- its place, which counts from 0
abbrev pub place : ℕ → Option ℕ
place zero = None
place (suc k) = Some k

-- whether there is a slot that passes
unfoldable pub some : (ℕ → Bool) → Bool
some test = not (eqb (first_of test slots) 0)

-- "the next due slot after the last one asked, going round", 0 for none
unfoldable pub next_after : List Bool → ℕ → ℕ
next_after due last = first_of (due_in due) (round last)

abbrev pub next_due : Table → ℕ
next_due t = next_after t.due t.last

-- the lowest slot with address a, 0 for none
abbrev pub holds : List ℕ → ℕ → ℕ → Bool
holds addresses a k = eqb (address_in addresses k) a

unfoldable pub lowest_with : List ℕ → ℕ → ℕ
lowest_with addresses a = first_of (holds addresses a) slots

-- "Removed slots are used again, the lowest empty first"
abbrev pub lowest_empty : Table → ℕ
lowest_empty t = lowest_with t.addresses 0

-- ---- what makes a table unfit

-- 101 slot outside 1..32
abbrev pub no_slot : ℕ → Bool
no_slot k = ltb k 1 || ltb 32 k

-- 100 address outside 1..99,999,999
abbrev pub no_address : ℕ → Bool
no_address a = ltb a 1 || ltb 99999999 a

-- slot k has an address outside its range; has one that is held twice, so that a lower slot has it too; is empty and due
abbrev pub outside_range : List ℕ → ℕ → Bool
outside_range addresses k = not (empty_in addresses k) && no_address (address_in addresses k)

abbrev pub held_twice : List ℕ → ℕ → Bool
held_twice addresses k = not (empty_in addresses k) && not (eqb (lowest_with addresses (address_in addresses k)) k)

abbrev pub empty_due : List ℕ → List Bool → ℕ → Bool
empty_due addresses due k = empty_in addresses k && due_in due k

unfoldable pub unfit_slot : List ℕ → List Bool → ℕ → Bool
unfit_slot addresses due k = outside_range addresses k || held_twice addresses k || empty_due addresses due k

-- 20 state unfit: .. a table whose last asked is outside 1..32, or with an address outside its range or held twice, or an empty slot due
unfoldable pub unfit : Table → Bool
unfit t = no_slot t.last || some (unfit_slot t.addresses t.due)

-- ---- a table with one slot changed
abbrev pub with_address : Table → ℕ → ℕ → Table
with_address t k a = record { addresses = set t.addresses (k - 1) a; due = t.due; last = t.last }

abbrev pub with_due : Table → ℕ → Bool → Table
with_due t k d = record { addresses = t.addresses; due = set t.due (k - 1) d; last = t.last }

-- and with slot k as the last asked
abbrev pub asked : Table → ℕ → Table
asked t k = record { addresses = t.addresses; due = t.due; last = k }
