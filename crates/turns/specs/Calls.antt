-- The calls: the order of their refusals, and what each answers and leaves.
-- Assumes nothing.
use Rattle.std.specs.Prelude.{ℕ, Bool, true, false, not, List, [], ◌∷◌, Result, Ok, Err}
use Rattle.wire.specs.Answer.{answered, refuse}
use Rattle.wire.specs.Refusal.{Rule, ◌when◌, first}
use Rattle.wire.specs.Told.{Told, accepted, refused}
use Rattle.turns.specs.Table.{empty_in, address_of, is_due, some, holds, next_due, lowest_empty, no_slot, no_address, unfit, with_address, with_due, asked}
use Rattle.turns.specs.declared.Table.{Table}
use Rattle.turns.specs.declared.Answered.{Answered}
use Rattle.turns.specs.declared.Given.{Given}
use Rattle.wire.specs.Numbered.{number_of}
use Rattle.wire.specs.declared.refusals.Refusal.{Refusal}

-- the source's types of these names
abbrev pub Added : Type 0
Added = Answered ℕ

abbrev pub Changed : Type 0
Changed = Answered Unit

abbrev pub Turned : Type 0
Turned = Answered Given

-- an answer, and the table that is left
abbrev pub answered_with : {A : Type 0} → Result A Refusal → Table → Answered A
answered_with r t = record { answer = r; table = t }

-- 102 slot empty
abbrev pub is_empty : Table → ℕ → Bool
is_empty t k = empty_in t.addresses k

-- 103 address present
abbrev pub present : Table → ℕ → Bool
present t a = some (holds t.addresses a)

-- 104 no empty slot
abbrev pub full : Table → Bool
full t = not (some (is_empty t))

-- 105 on a turn, exactly if no slot is due
abbrev pub none_due : Table → Bool
none_due t = not (some (is_due t))

-- adding
abbrev pub add_rules : Table → ℕ → List Rule
add_rules t a =
    20 when unfit t
    ∷ 100 when no_address a
    ∷ 103 when present t a
    ∷ 104 when full t
    ∷ []

-- the lowest empty slot gets the address; "an added slot is not due"
unfoldable pub added : Table → ℕ → Added
added t a =
    answered (λ n. answered_with (refuse n) t)
    (answered_with (Ok (lowest_empty t)) (with_due (with_address t (lowest_empty t) a) (lowest_empty t) false))
    (first (add_rules t a))

-- marking, clearing and removing: the calls on a slot
abbrev pub slot_rules : Table → ℕ → List Rule
slot_rules t k =
    20 when unfit t
    ∷ 101 when no_slot k
    ∷ 102 when is_empty t k
    ∷ []

unfoldable pub changed : Table → ℕ → Table → Changed
changed t k t' = answered (λ n. answered_with (refuse n) t) (answered_with (Ok tt) t') (first (slot_rules t k))

-- a removed slot is empty and not due; the last asked stays
abbrev pub removed : Table → ℕ → Changed
removed t k = changed t k (with_due (with_address t k 0) k false)

abbrev pub marked : Table → ℕ → Changed
marked t k = changed t k (with_due t k true)

abbrev pub cleared : Table → ℕ → Changed
cleared t k = changed t k (with_due t k false)

abbrev pub turn_rules : Table → List Rule
turn_rules t =
    20 when unfit t
    ∷ 105 when none_due t
    ∷ []

-- "a turn gives the next due slot", with its address, "and marks it not due"; it is then the last one asked
unfoldable pub turned : Table → Turned
turned t =
    answered (λ n. answered_with (refuse n) t)
    (answered_with (Ok (record { slot = next_due t; address = address_of t (next_due t) })) (asked (with_due t (next_due t) false) (next_due t)))
    (first (turn_rules t))

-- ---- the paper's number and values: of adding the slot, of a turn the slot and its address
abbrev pub told_adding : Result ℕ Refusal → Told
told_adding (Ok k) = accepted (k ∷ [])
told_adding (Err e) = refused (number_of e)

abbrev pub told_changing : Result Unit Refusal → Told
told_changing (Ok x) = accepted []
told_changing (Err e) = refused (number_of e)

abbrev pub told_turning : Result Given Refusal → Told
told_turning (Ok g) = accepted (g.slot ∷ g.address ∷ [])
told_turning (Err e) = refused (number_of e)
