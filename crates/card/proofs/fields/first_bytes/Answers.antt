-- `card::fields::first_bytes` meets its contract.
use mathlib.Core.Path.{◌∙◌}
use Rattle.wire.proofs.Writing.{over_zeros}
use Rattle.card.proofs.fields.first_bytes.Goals as goal

pub returns : goal.returns
returns c = c.put_all.ensures ∙ over_zeros 17 _
