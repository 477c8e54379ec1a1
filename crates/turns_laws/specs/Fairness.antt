-- Fairness: a slot that is due, and neither cleared nor removed, is given within 32 turns.
-- Assumes nothing.
use Rattle.std.specs.Prelude.{ℕ, ◌<◌, ◌≡◌, true, List, [], ◌∷◌, ◌++◌, length}
use Rattle.wire.specs.Told.{Told, accepted}
use Rattle.turns.specs.Table.{is_due}
use Rattle.turns.specs.declared.Table.{Table}
use Rattle.turns_laws.specs.Course.{Call, Add, Remove, Mark, Clear, Turn, Exchange}

-- "neither cleared nor removed": no call clears slot k, and none removes it
abbrev pub Spared : ℕ → Call → Type 0
Spared k c = (c ≡ Clear k → ⊥) × (c ≡ Remove k → ⊥)

-- what the turns among the calls are answered, in order
abbrev pub noted : Call → Told → List Told → List Told
noted Turn r rs = r ∷ rs
noted (Add a) r rs = rs
noted (Remove k) r rs = rs
noted (Mark k) r rs = rs
noted (Clear k) r rs = rs

unfoldable pub turns_in : List Exchange → List Told
turns_in [] = []
turns_in (x ∷ xs) = noted x.call x.told (turns_in xs)

-- none of these turns is refused
unfoldable pub NoneRefused : List Told → Type 0
NoneRefused [] = Unit {0}
NoneRefused (r ∷ rs) = (r.number ≡ 0) × NoneRefused rs

-- "is given within 32 turns", or n: one of the first n gives slot k, with its address a, and none before it is refused
pub record GivenWithin (n k a : ℕ) (turns : List Told) : Type 0 where
  pub before : List Told
  pub after : List Told
  pub given : turns ≡ before ++ (accepted (k ∷ a ∷ []) ∷ after)
  pub soon : length before < n
  pub unrefused : NoneRefused before

-- there were fewer than n turns yet, none of them refused, and slot k is still due in the table u
pub record Waits (n k : ℕ) (turns : List Told) (u : Table) : Type 0 where
  pub due : is_due u k ≡ true
  pub few : length turns < n
  pub unrefused : NoneRefused turns
