-- `card::forms::field_at` meets its contract.
use Rattle.card.proofs.Widths.{form_whole}
use Rattle.card.proofs.forms.field_at.Goals as goal

pub returns : goal.returns
returns g c = form_whole g.F.CardForm.form _ _ _ _ g.met.F.CardForm.laid.narrow c.widths.ensures c.field_at.ensures
