-- `pulsar_body::mask_fault` meets its contract.
use Rattle.wire.specs.Numbered.{refusal}
use Rattle.wire.proofs.Answer.{refuses, passes}
use Rattle.pulsar_body.proofs.mask_fault.Goals as goal

pub returns-then-no_channel : goal.returns-then-no_channel
unfolding refusal
returns-then-no_channel c = search (refuses, passes) depth 12

pub returns : goal.returns
returns c = search passes depth 12
