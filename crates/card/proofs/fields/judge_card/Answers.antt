-- `card::fields::judge_card` meets its contract.
use Rattle.wire.specs.Numbered.{refusal}
use Rattle.wire.proofs.Answer.{refuses, passes}
use Rattle.card.proofs.fields.judge_card.Goals as goal

pub returns-then-bad_address : goal.returns-then-bad_address
unfolding refusal
returns-then-bad_address c = search (refuses, passes) depth 12

pub returns-then-bad_time : goal.returns-then-bad_time
unfolding refusal
returns-then-bad_time c = search (refuses, passes) depth 12

pub returns-then-bad_channel : goal.returns-then-bad_channel
unfolding refusal
returns-then-bad_channel c = search (refuses, passes) depth 12

pub returns : goal.returns
returns c = search passes depth 12
