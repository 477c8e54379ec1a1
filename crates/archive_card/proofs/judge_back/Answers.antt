-- `archive_card::judge_back` meets its contract.
use Rattle.card.proofs.Judged.{handed_more, judged_rest}
use Rattle.archive_card.specs.Reading.{archive_rules, read_archive_card}
use Rattle.archive_card.specs.Moving.{back_rules}
use Rattle.archive_card.proofs.judge_back.Goals as goal

pub returns-in_err-read_archive_card : goal.returns-in_err-read_archive_card
unfolding read_archive_card
returns-in_err-read_archive_card c =
    let a = c.args in
    handed_more _ (archive_rules a.bytes.now) (back_rules a.bytes.now a.out.now) _ c.in_err-read_archive_card.ensures _ _ c.from_residual.ensures

pub returns : goal.returns
unfolding read_archive_card
returns c =
    let a = c.args in
    judged_rest _ (archive_rules a.bytes.now) (back_rules a.bytes.now a.out.now) tt _ c.in_ok-read_archive_card.ensures _ _ c.judge_move.ensures
