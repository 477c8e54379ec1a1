-- Which addresses are in a table, by the calls that made it and what was answered to them.
-- Assumes nothing.
use Rattle.std.specs.Prelude.{ℕ, ◌≡◌, List, [], ◌∷◌, ◌++◌}
use Rattle.wire.specs.Told.{accepted}
use Rattle.turns.specs.Table.{address_of}
use Rattle.turns.specs.declared.Table.{Table}
use Rattle.turns_laws.specs.Course.{Call, Add, Remove, Exchange, exchange, EachCall}

-- slot k has address a
abbrev pub Holds : Table → ℕ → ℕ → Type 0
Holds t k a = (address_of t k ≡ a) × (a ≡ 0 → ⊥)

-- the call does not remove slot k
abbrev pub Stays : ℕ → Call → Type 0
Stays k c = c ≡ Remove k → ⊥

-- address a was added, slot k was the answer, and slot k was not removed since
pub record AddedAt (k a : ℕ) (xs : List Exchange) : Type 0 where
  pub before : List Exchange
  pub since : List Exchange
  pub added : xs ≡ before ++ (exchange (Add a) (accepted (k ∷ [])) ∷ since)
  pub kept : EachCall (Stays k) since
