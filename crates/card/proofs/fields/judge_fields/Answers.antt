-- `card::fields::judge_fields` meets its contract.
use Rattle.wire.specs.Numbered.{refusal}
use Rattle.wire.proofs.Answer.{refuses, passes}
use Rattle.card.proofs.fields.judge_fields.Goals as goal

pub returns-then-bad_address : goal.returns-then-bad_address
unfolding refusal
returns-then-bad_address c = search (refuses, passes) depth 12

pub returns-then-bad_time : goal.returns-then-bad_time
unfolding refusal
returns-then-bad_time c = search (refuses, passes) depth 12

pub returns-then-upper_half_set : goal.returns-then-upper_half_set
unfolding refusal
returns-then-upper_half_set c = search (refuses, passes) depth 12

pub returns : goal.returns
returns c = search passes depth 12
