-- `pulsar_reply::judge::status_fault` meets its contract.
use Rattle.wire.specs.Numbered.{refusal}
use Rattle.wire.proofs.Answer.{refuses, passes}
use Rattle.pulsar_reply.proofs.judge.status_fault.Goals as goal

pub returns-then-bad_status : goal.returns-then-bad_status
unfolding refusal
returns-then-bad_status c = search (refuses, passes) depth 12

pub returns : goal.returns
returns c = search passes depth 12
