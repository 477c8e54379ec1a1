-- `archive_card::write_archive_card` meets its contract.
use mathlib.Core.Path.{subst}
use mathlib.Core.List.{List, [], ◌∷◌}
use Prim.Native.Nat.{ℕ}
use Rattle.wire.specs.Refusal.{◌when◌, first}
use Rattle.wire.specs.Writes.{Writes}
use Rattle.card.specs.Writing.{card_rules, too_small}
use Rattle.card.proofs.Judged.{writes_more, writes_rest}
use Rattle.archive_card.specs.Layout.{bad_archive}
use Rattle.archive_card.proofs.Form.{spare_missing}
use Rattle.archive_card.proofs.write_archive_card.Goals as goal

pub returns-in_err-judge_card : goal.returns-in_err-judge_card
returns-in_err-judge_card c =
    let a = c.args in
    writes_more tt (card_rules a.card) (56 when bad_archive a.kind ∷ 16 when too_small 18 a.out.now ∷ []) _ c.in_err-judge_card.ensures tt _ _ _ c.from_residual.ensures

pub returns-in_err-judge_archive : goal.returns-in_err-judge_archive
returns-in_err-judge_archive c =
    let a = c.args in
    let later = 16 when too_small 18 a.out.now ∷ [] in
    writes_rest tt (card_rules a.card) (56 when bad_archive a.kind ∷ later) tt tt c.in_ok-judge_card.ensures _ _ _ _
    (writes_more tt (56 when bad_archive a.kind ∷ []) later _ c.in_err-judge_archive.ensures tt _ _ _ c.from_residual-in_err-judge_archive.ensures)

pub returns : goal.returns
returns c =
    let a = c.args in
    let later = 16 when too_small 18 a.out.now ∷ [] in
    writes_rest tt (card_rules a.card) (56 when bad_archive a.kind ∷ later) tt tt c.in_ok-judge_card.ensures _ _ _ _
    (writes_rest tt (56 when bad_archive a.kind ∷ []) later tt tt c.in_ok-judge_archive.ensures _ _ _ _
    (subst (λ (bs : List ℕ). Writes (first later) bs a.out.now c.write_fields.result c.write_fields.new.out) (spare_missing a.card a.kind) c.write_fields.ensures))
