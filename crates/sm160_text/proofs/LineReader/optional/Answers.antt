-- `sm160_text::LineReader::optional` meets its contract.
use mathlib.Core.Path.{sym, ◌∙◌}
use Rattle.sm160_text.proofs.Walking.{optional_absent, there_read}
use Rattle.sm160_text.proofs.LineReader.optional.Goals as goal

pub returns-then-not-is_here : goal.returns-then-not-is_here
returns-then-not-is_here c = optional_absent _ _ (sym c.is_here.ensures ∙ c.if-not-is_here.true)

pub returns : goal.returns
returns c = there_read _ _ (sym c.is_here.ensures ∙ c.if-not-is_here.false) _ _ c.in_ok-needed.ensures
