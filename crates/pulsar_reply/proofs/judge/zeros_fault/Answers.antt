-- `pulsar_reply::judge::zeros_fault` meets its contract.
use Rattle.wire.specs.Numbered.{refusal}
use Rattle.wire.proofs.Answer.{refuses, passes}
use Rattle.pulsar_reply.proofs.judge.zeros_fault.Goals as goal

pub returns-then-not_two_zeros : goal.returns-then-not_two_zeros
unfolding refusal
returns-then-not_two_zeros c = search (refuses, passes) depth 12

pub returns : goal.returns
returns c = search passes depth 12
