-- `pulsar_frame::write_reply` meets its contract.
use mathlib.Core.Path.{refl}
use Rattle.wire.specs.Numbered.{refusal}
use Rattle.wire.proofs.Rules.{hit, skip}
use Rattle.wire.proofs.Writes.{writes_refused, writes_as}
use Rattle.pulsar_frame.proofs.write_reply.Goals as goal

pub returns-then-bad_own : goal.returns-then-bad_own
unfolding refusal
returns-then-bad_own c = writes_refused _ _ 0 _ _ (hit _ _ _ _ c.bad_own.ensures c.if-bad_own.true) refl refl

pub returns : goal.returns
returns c = search (writes_as, skip) depth 4
