-- `pulsar_body::date_fault` meets its contract.
use Rattle.wire.specs.Numbered.{refusal}
use Rattle.wire.proofs.Answer.{refuses, passes}
use Rattle.pulsar_body.proofs.date_fault.Goals as goal

pub returns-then-not_date : goal.returns-then-not_date
unfolding refusal
returns-then-not_date c = search (refuses, passes) depth 12

pub returns : goal.returns
returns c = search passes depth 12
