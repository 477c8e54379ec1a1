-- `sm160_text::is_at` meets its contract.
use mathlib.Core.Path.{◌∙◌}
use borrow.Author.Tests.{le-ltb}
use Rattle.sm160_text.proofs.Places.{is_at_here, is_at_past}
use Rattle.sm160_text.proofs.is_at.Goals as goal

pub returns-then-p-s : goal.returns-then-p-s
returns-then-p-s c = is_at_here _ _ _ c.if-p-s.true

pub returns-else-p-s : goal.returns-else-p-s
returns-else-p-s c = le-ltb _ _ c.if-p-s.false ∙ is_at_past _ _ _ c.if-p-s.false
