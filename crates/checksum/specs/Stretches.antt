-- A message that comes in stretches, each in a buffer of its own.
-- Assumes nothing.
use Rattle.std.specs.Prelude.{ℕ, ◌≡◌, List, [], ◌∷◌}

-- Stretches are summed in turn, from a start to a sum, "so the second stretch goes on from the first". `Sums` is what is known of each: from a
-- start, over a stretch, came a sum.
unfoldable pub InTurn : (ℕ → List ℕ → ℕ → Type 0) → ℕ → List (List ℕ) → ℕ → Type 0
InTurn Sums start [] sum = sum ≡ start
InTurn Sums start (bytes ∷ more) sum = (c : ℕ) × Sums start bytes c × InTurn Sums c more sum
