-- Rules that are asked of each of a list in turn, group by group or place by place: the first that has a fault decides.
-- Assumes nothing.
use Rattle.std.specs.Prelude.{ℕ, suc, ◌≡◌, List, [], ◌∷◌, ◌++◌}
use Rattle.wire.specs.Answer.{answered}
use Rattle.wire.specs.Refusal.{Rule, first, NoneHolds, FirstIs}

-- "then group by group"
unfoldable pub in_turn : {A : Type 0} → (A → List Rule) → List A → List Rule
in_turn rules [] = []
in_turn rules (x ∷ xs) = rules x ++ in_turn rules xs

-- the first that has a fault, and this one where none has
unfoldable pub first_faulty : {A : Type 0} → (A → List Rule) → A → List A → A
first_faulty rules none [] = none
first_faulty rules none (x ∷ xs) = answered (λ n. x) (first_faulty rules none xs) (first (rules x))

-- ---- what the law speaks of

-- none of them has a fault
abbrev pub Faultless : {A : Type 0} → (A → List Rule) → List A → Type 0
Faultless rules [] = Unit {0}
Faultless rules (x ∷ xs) = NoneHolds (rules x) × Faultless rules xs

-- n is the first fault of the first that has one
abbrev pub FirstFault : {A : Type 0} → (A → List Rule) → List A → ℕ → Type 0
FirstFault {A} rules xs n =
    (before : List A) × (x : A) × (after : List A) × (xs ≡ before ++ (x ∷ after)) × Faultless rules before × FirstIs (rules x) n

-- an answer is n just where n is the first fault of the first that has one, and 0 just where none has
abbrev pub FirstInTurn : {A : Type 0} → (A → List Rule) → List A → ℕ → Type 0
FirstInTurn rules xs answer =
    ((n : ℕ) → (answer ≡ suc n → FirstFault rules xs (suc n)) × (FirstFault rules xs (suc n) → answer ≡ suc n))
    × (answer ≡ 0 → Faultless rules xs)
    × (Faultless rules xs → answer ≡ 0)
