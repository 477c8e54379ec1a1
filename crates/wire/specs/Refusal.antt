-- Refusals in an order: a list of rules, each a number and whether its condition holds, and the number of the first that holds.
-- Assumes nothing.
use Rattle.std.specs.Prelude.{ℕ, zero, suc, ◌≡◌, Bool, true, false, ◌&&◌, List, [], ◌∷◌, ◌++◌}
use Rattle.wire.specs.Numbered.{refusals, has_number}

pub data Rule : Type 0 where
  ◌when◌ : ℕ → Bool → Rule

infix 80 ◌when◌
-- the library's `cond` for numbers, but shut: so a proof's `search` sees the rules one by one (proofs/Refusal: `hit`, `skip`)
unfoldable pub pick : Bool → ℕ → ℕ → ℕ
pick true a b = a
pick false a b = b

-- the number of the first rule that holds, 0 where none does
abbrev pub first : List Rule → ℕ
first [] = 0
first ((n when b) ∷ rs) = pick b n (first rs)

-- the same rules, asked only where b holds
abbrev pub asked_if : Bool → List Rule → List Rule
asked_if b [] = []
asked_if b ((n when c) ∷ rs) = n when (b && c) ∷ asked_if b rs

-- ---- what the law of refusals speaks of

-- no rule of the list holds: for a list that is written out, a pair for each
abbrev pub NoneHolds : List Rule → Type 0
NoneHolds [] = Unit {0}
NoneHolds ((n when b) ∷ rs) = (b ≡ false) × NoneHolds rs

-- rule n holds and no earlier one does
abbrev pub FirstIs : List Rule → ℕ → Type 0
FirstIs rs n = (before : List Rule) × (after : List Rule) × (rs ≡ before ++ ((n when true) ∷ after)) × NoneHolds before

-- no rule has the number 0, which stands for none: for a list that is written out, it computes
abbrev pub numbered : List Rule → Bool
numbered [] = true
numbered ((zero when b) ∷ rs) = false
numbered ((suc n when b) ∷ rs) = numbered rs

-- each rule's number is a refusal's (proofs/Rules, `named_numbered`: so none has the number 0); it computes as well
abbrev pub named : List Rule → Bool
named [] = true
named ((n when b) ∷ rs) = has_number n refusals && named rs

-- demand 1 of an answer: it is n just where rule n holds and no earlier one does, and 0 just where none holds
abbrev pub FirstInOrder : List Rule → ℕ → Type 0
FirstInOrder rules answer =
    ((n : ℕ) → (answer ≡ suc n → FirstIs rules (suc n)) × (FirstIs rules (suc n) → answer ≡ suc n))
    × (answer ≡ 0 → NoneHolds rules)
    × (NoneHolds rules → answer ≡ 0)
