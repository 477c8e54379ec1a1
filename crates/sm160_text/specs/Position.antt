-- A place of a file as line and column: "A refusal tells line and column from 1."
-- Assumes nothing.
use Rattle.std.specs.Prelude.{ℕ, ◌+◌, cond, List, [], ◌∷◌, eqb, take}
use Rattle.sm160_text.specs.Text.{line_feed}
use Rattle.sm160_text.specs.declared.Position.{Position}

-- how many line feeds there are
unfoldable pub feeds : List ℕ → ℕ
feeds [] = 0
feeds (b ∷ bs) = cond (eqb b line_feed) (1 + feeds bs) (feeds bs)

-- the column after these characters, the first of which stands in column c
unfoldable pub column_from : ℕ → List ℕ → ℕ
column_from c [] = c
column_from c (b ∷ bs) = cond (eqb b line_feed) (column_from 1 bs) (column_from (c + 1) bs)

unfoldable pub position : List ℕ → ℕ → Position
position s p = record { line = 1 + feeds (take p s); column = column_from 1 (take p s) }
