-- `pulsar_frame::write_request` meets its contract.
use mathlib.Core.Path.{refl}
use Rattle.wire.specs.Numbered.{refusal}
use Rattle.wire.proofs.Rules.{hit, skip}
use Rattle.wire.proofs.Writes.{writes_refused, writes_as}
use Rattle.pulsar_frame.proofs.write_request.Goals as goal

pub returns-then-bad_asked : goal.returns-then-bad_asked
unfolding refusal
returns-then-bad_asked c = writes_refused _ _ 0 _ _ (hit _ _ _ _ c.bad_asked.ensures c.if-bad_asked.true) refl refl

pub returns : goal.returns
returns c = search (writes_as, skip) depth 4
