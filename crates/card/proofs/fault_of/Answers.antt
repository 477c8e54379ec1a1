-- `card::fault_of` meets its contract.
use mathlib.Core.Path.{sym}
use Rattle.wire.proofs.Answer.{handed_on, none_judged, judged_none}
use Rattle.card.specs.Reading.{read_card}
use Rattle.card.proofs.fault_of.Goals as goal

pub returns-in_err-read_card : goal.returns-in_err-read_card
unfolding read_card
returns-in_err-read_card c = handed_on _ _ _ _ _ c.from_residual.ensures c.in_err-read_card.ensures

pub returns : goal.returns
unfolding read_card
returns c = sym (judged_none _ _ (none_judged _ _ _ c.in_ok-read_card.ensures))
