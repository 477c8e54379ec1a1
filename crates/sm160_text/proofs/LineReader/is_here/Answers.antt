-- `sm160_text::LineReader::is_here` meets its contract.
use mathlib.Core.Path.{sym, ◌∙◌}
use native.Mathlib.Omega.{arith}
use Rattle.sm160_text.proofs.Places.{is_at_in}
use Rattle.sm160_text.proofs.LineReader.is_here.Goals as goal

pub overflow_add-self : goal.overflow_add-self
overflow_add-self c = let h = is_at_in _ _ _ (sym c.is_at.ensures ∙ c.if-is_at.true) in omega arith
