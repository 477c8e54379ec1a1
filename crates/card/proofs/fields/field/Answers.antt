-- `card::fields::field` meets its contract.
use Rattle.card.proofs.Widths.{field_whole}
use Rattle.card.proofs.fields.field.Goals as goal

pub returns : goal.returns
returns c = field_whole _ _ _ c.field_at.ensures
