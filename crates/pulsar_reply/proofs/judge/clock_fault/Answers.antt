-- `pulsar_reply::judge::clock_fault` meets its contract.
use Rattle.wire.specs.Numbered.{refusal}
use Rattle.wire.proofs.Answer.{refuses, passes}
use Rattle.pulsar_reply.proofs.judge.clock_fault.Goals as goal

pub returns-then-not_clock : goal.returns-then-not_clock
unfolding refusal
returns-then-not_clock c = search (refuses, passes) depth 12

pub returns : goal.returns
returns c = search passes depth 12
