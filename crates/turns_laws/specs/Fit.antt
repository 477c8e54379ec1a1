-- What a fit table is, said of each slot.
-- Assumes nothing.
use Rattle.std.specs.Prelude.{ℕ, ◌≤◌, ◌≡◌, false}
use Rattle.turns.specs.Table.{IsSlot, address_of, is_due}
use Rattle.turns.specs.declared.Table.{Table}

pub record Fit (t : Table) : Type 0 where
  -- the last asked is a slot
  pub asked : IsSlot t.last
  -- no address is outside its range
  pub small : (k : ℕ) → IsSlot k → address_of t k ≤ 99999999
  -- none is held twice
  pub once : (j k : ℕ) → IsSlot j → IsSlot k → (address_of t k ≡ 0 → ⊥) → address_of t j ≡ address_of t k → j ≡ k
  -- no empty slot is due
  pub idle : (k : ℕ) → IsSlot k → address_of t k ≡ 0 → is_due t k ≡ false
