-- `archive_card::judge_move` meets its contract.
use Rattle.wire.specs.Numbered.{refusal}
use Rattle.wire.proofs.Answer.{refuses, passes}
use Rattle.archive_card.proofs.judge_move.Goals as goal

pub returns-then-not_current : goal.returns-then-not_current
unfolding refusal
returns-then-not_current c = search (refuses, passes) depth 12

pub returns-then-too_small : goal.returns-then-too_small
unfolding refusal
returns-then-too_small c = search (refuses, passes) depth 12

pub returns : goal.returns
returns c = search passes depth 12
