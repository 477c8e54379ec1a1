-- `pulsar_body::Width::of` meets its contract.
use mathlib.Core.Path.{refl, sym, ◌∙◌}
use Rattle.wire.specs.Numbered.{refusal}
use Rattle.pulsar_body.proofs.Width.of.Goals as goal

pub returns-then-bad_width : goal.returns-then-bad_width
unfolding refusal
returns-then-bad_width c = (refl, sym c.bad_width.ensures ∙ c.if-bad_width.true)
