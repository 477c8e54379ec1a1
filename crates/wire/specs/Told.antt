-- What a promise speaks of: an answer as the paper has it. Each room translates its enums by a definition of its own.
-- Assumes nothing.
use Rattle.std.specs.Prelude.{ℕ, ◌≡◌, List, [], ◌∷◌}

-- the paper's number, 0 for accepted, and the values that come with it
pub record Told : Type 0 where
  pub number : ℕ
  pub values : List ℕ

abbrev pub accepted : List ℕ → Told
accepted values = record { number = 0; values = values }

-- a refusal may come with values too
abbrev pub refused_with : ℕ → List ℕ → Told
refused_with n values = record { number = n; values = values }

abbrev pub refused : ℕ → Told
refused n = refused_with n []

-- ---- a table of edges: what is told, and what the paper says; it holds where each does
pub data Edge : Type 0 where
  ◌gives◌ : Told → Told → Edge

infix 80 ◌gives◌
abbrev pub AllHold : List Edge → Type 0
AllHold [] = Unit {0}
AllHold ((told gives said) ∷ es) = (told ≡ said) × AllHold es
