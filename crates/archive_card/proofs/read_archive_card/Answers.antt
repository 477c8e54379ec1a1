-- `archive_card::read_archive_card` meets its contract.
use mathlib.Core.Path.{sym, ap, ap₂, ◌∙◌}
use mathlib.Core.List.{[], ◌∷◌}
use Prim.Native.Nat.{ℕ}
use Rattle.std.specs.Prelude.{Ok}
use Rattle.wire.specs.Answer.{judged}
use Rattle.wire.specs.Refusal.{◌when◌, first}
use Rattle.wire.proofs.Answer.{handed_on, accepted_as, none_judged, judged_none}
use Rattle.card.specs.Reading.{shared_rules}
use Rattle.card.proofs.Judged.{handed_more, judged_rest}
use Rattle.archive_card.specs.Layout.{bad_archive, archive_form, archive_card_from, archive_number}
use Rattle.archive_card.specs.Reading.{read_archive_card}
use Rattle.archive_card.proofs.read_archive_card.Goals as goal

pub returns-in_err-f : goal.returns-in_err-f
unfolding read_archive_card
returns-in_err-f c =
    let s = c.args.bytes.now in
    handed_more _ (shared_rules archive_form s) (56 when bad_archive (archive_number s) ∷ []) _ c.in_err-f.ensures _ _ c.from_residual.ensures

pub returns-in_err-judge_archive : goal.returns-in_err-judge_archive
unfolding read_archive_card
returns-in_err-judge_archive c =
    let s = c.args.bytes.now in
    judged_rest _ (shared_rules archive_form s) (56 when bad_archive (archive_number s) ∷ []) tt _ c.in_ok-f.ensures _ _
    (handed_on _ tt _ _ _ c.from_residual-in_err-judge_archive.ensures (c.in_err-judge_archive.ensures ∙ ap (λ (n : ℕ). judged tt (first (56 when bad_archive n ∷ []))) c.archive_number-kind.ensures))

pub returns : goal.returns
unfolding read_archive_card
returns c =
    let s = c.args.bytes.now in
    let kind = c.archive_number-kind.ensures in
    let found = (accepted_as _ _ _ (sym c.in_ok-f.ensures)).1 in
    let none = none_judged tt _ tt (c.in_ok-judge_archive.ensures ∙ ap (λ (n : ℕ). judged tt (first (56 when bad_archive n ∷ []))) kind) in
    judged_rest _ (shared_rules archive_form s) (56 when bad_archive (archive_number s) ∷ []) tt _ c.in_ok-f.ensures _ _
    (ap Ok (c.archive_card_from.ensures ∙ ap₂ archive_card_from (sym found) kind) ∙ sym (judged_none _ _ none))
