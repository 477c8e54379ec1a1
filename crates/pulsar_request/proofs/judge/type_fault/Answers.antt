-- `pulsar_request::judge::type_fault` meets its contract.
use Rattle.wire.specs.Numbered.{refusal}
use Rattle.wire.proofs.Answer.{refuses, passes}
use Rattle.pulsar_request.proofs.judge.type_fault.Goals as goal

pub returns-then-bad_type : goal.returns-then-bad_type
unfolding refusal
returns-then-bad_type c = search (refuses, passes) depth 12

pub returns : goal.returns
returns c = search passes depth 12
