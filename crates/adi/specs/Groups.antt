-- Groups of bytes that follow one another, and what stands at a place among them.
-- Assumes nothing.
use Rattle.std.specs.Prelude.{ℕ, zero, suc, List, [], ◌∷◌, get_or}

-- of each group what is left of the bytes from its first one on. `more b` bytes of it follow the first, b; `skip` bytes of the group
-- before are still to be passed over
unfoldable pub starts : (ℕ → ℕ) → ℕ → List ℕ → List (List ℕ)
starts more skip [] = []
starts more zero (b ∷ s) = (b ∷ s) ∷ starts more (more b) s
starts more (suc skip) (b ∷ s) = starts more skip s

abbrev pub groups : (ℕ → ℕ) → List ℕ → List (List ℕ)
groups more s = starts more 0 s

-- places count from 1; at one that is not there stands `none`
abbrev pub at_place : {A : Type 0} → A → List A → ℕ → A
at_place none xs zero = none
at_place none xs (suc k) = get_or xs k none
