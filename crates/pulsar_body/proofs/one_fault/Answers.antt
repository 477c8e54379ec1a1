-- `pulsar_body::one_fault` meets its contract.
use Rattle.wire.specs.Numbered.{refusal}
use Rattle.wire.proofs.Answer.{refuses, passes}
use Rattle.pulsar_body.proofs.one_fault.Goals as goal

pub returns-then-not_one : goal.returns-then-not_one
unfolding refusal
returns-then-not_one c = search (refuses, passes) depth 12

pub returns : goal.returns
returns c = search passes depth 12
