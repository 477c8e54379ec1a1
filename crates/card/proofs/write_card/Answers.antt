-- `card::write_card` meets its contract.
use mathlib.Core.List.{[], ◌∷◌}
use Rattle.wire.specs.Refusal.{◌when◌}
use Rattle.card.specs.Layout.{card_bytes}
use Rattle.card.specs.Writing.{card_rules, too_small}
use Rattle.card.proofs.Judged.{writes_more, writes_rest}
use Rattle.card.proofs.write_card.Goals as goal

pub returns-in_err-judge_card : goal.returns-in_err-judge_card
returns-in_err-judge_card c =
    let a = c.args in
    writes_more tt (card_rules a.card) (16 when too_small 17 a.out.now ∷ []) _ c.in_err-judge_card.ensures tt _ _ _ c.from_residual.ensures

pub returns : goal.returns
unfolding card_bytes
returns c =
    let a = c.args in
    writes_rest tt (card_rules a.card) (16 when too_small 17 a.out.now ∷ []) tt tt c.in_ok-judge_card.ensures _ _ _ _ c.write_fields.ensures
