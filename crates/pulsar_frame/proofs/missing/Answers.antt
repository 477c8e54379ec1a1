-- `pulsar_frame::missing` meets its contract.
use Rattle.wire.proofs.Rules.{hit, skip}
use Rattle.pulsar_frame.proofs.missing.Goals as goal

pub returns-then-too_short : goal.returns-then-too_short
returns-then-too_short c = search (hit, skip) depth 4

pub returns : goal.returns
returns c = search skip depth 4
