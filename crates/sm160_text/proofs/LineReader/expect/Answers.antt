-- `sm160_text::LineReader::expect` meets its contract. The loop's invariant: what is left, from here, is the whole.
use mathlib.Core.Path.{sym, ◌∙◌}
use native.Mathlib.Omega.{arith}
use Rattle.sm160_text.proofs.Places.{is_at_in, characters_more, characters_other, characters_all}
use Rattle.sm160_text.proofs.Walking.{comes_to_refusal, comes_to_end}
use Rattle.sm160_text.proofs.LineReader.expect.Goals as goal

pub returns-then-not-is_at : goal.returns-then-not-is_at
returns-then-not-is_at c =
    comes_to_refusal _ _ _ _ c.loop-c.invariant.0
    (characters_other _ _ _ _ _ _ c.loop-c-test.true c.is_at.ensures c.if-not-is_at.true ∙ c.loop-c.invariant.1)

pub overflow_add-self : goal.overflow_add-self
overflow_add-self c = let h = is_at_in _ _ _ (sym c.is_at.ensures ∙ c.if-not-is_at.false) in omega arith

pub loop-c-preserved : goal.loop-c-preserved
loop-c-preserved c =
    (c.loop-c.invariant.0, characters_more _ _ _ _ _ _ c.loop-c-test.true c.is_at.ensures c.if-not-is_at.false ∙ c.loop-c.invariant.1)

pub returns : goal.returns
returns c = comes_to_end _ _ _ _ c.loop-c.invariant.0 (characters_all _ _ _ _ _ c.loop-c-test.false ∙ c.loop-c.invariant.1)
