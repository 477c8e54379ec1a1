-- `card_text::put_text` meets its contract.
use mathlib.Core.Path.{refl, ◌∙◌}
use Rattle.wire.specs.Numbered.{refusal}
use Rattle.wire.proofs.Rules.{hit, skip}
use Rattle.wire.proofs.Writes.{writes_refused, writes_all}
use Rattle.card_text.proofs.Line.{text_over}
use Rattle.card_text.proofs.put_text.Goals as goal

pub returns-then-too_small : goal.returns-then-too_small
unfolding refusal
returns-then-too_small c = writes_refused _ _ 15 _ _ (hit _ _ _ _ c.too_small.ensures c.if-too_small.true) refl refl

pub returns : goal.returns
returns c =
    writes_all _ _ _ _ _ (skip _ _ _ _ _ c.too_small.ensures c.if-too_small.false refl) refl
    (c.put_all.ensures ∙ text_over _ _ _ c.too_small.ensures c.if-too_small.false)
