-- `card::read_card` meets its contract.
use mathlib.Core.Path.{sym, ap, ◌∙◌}
use Rattle.std.specs.Prelude.{Ok}
use Rattle.wire.proofs.Answer.{handed_on, accepted_as, judged_none}
use Rattle.card.specs.Layout.{card_from}
use Rattle.card.specs.Reading.{read_card}
use Rattle.card.proofs.read_card.Goals as goal

pub returns-in_err-f : goal.returns-in_err-f
unfolding read_card
returns-in_err-f c = handed_on _ _ _ _ _ c.from_residual.ensures c.in_err-f.ensures

pub returns : goal.returns
unfolding read_card
returns c =
    let said = accepted_as _ _ _ (sym c.in_ok-f.ensures) in
    ap Ok (c.card_from.ensures ∙ ap card_from (sym said.1)) ∙ sym (judged_none _ _ said.0)
