-- `archive_card::judge_archive` meets its contract.
use Rattle.wire.specs.Numbered.{refusal}
use Rattle.wire.proofs.Answer.{refuses, passes}
use Rattle.archive_card.proofs.judge_archive.Goals as goal

pub returns-then-bad_archive : goal.returns-then-bad_archive
unfolding refusal
returns-then-bad_archive c = search (refuses, passes) depth 12

pub returns : goal.returns
returns c = search passes depth 12
