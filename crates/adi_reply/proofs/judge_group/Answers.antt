-- `adi_reply::judge_group` meets its contract.
use Rattle.wire.specs.Numbered.{refusal}
use Rattle.wire.proofs.Answer.{refuses, passes}
use Rattle.adi_reply.proofs.judge_group.Goals as goal

pub returns-then-other_type : goal.returns-then-other_type
unfolding refusal
returns-then-other_type c = search (refuses, passes) depth 12

pub returns-then-bad_length : goal.returns-then-bad_length
unfolding refusal
returns-then-bad_length c = search (refuses, passes) depth 12

pub returns : goal.returns
returns c = search passes depth 12
