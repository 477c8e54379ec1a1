-- `card_text::put_archive_card` meets its contract.
use mathlib.Core.List.{[], ◌∷◌}
use native.Mathlib.Omega.{arith}
use Rattle.card_text.specs.Text.{numeral}
use Rattle.card_text.proofs.Text.{stored_then, stored_as}
use Rattle.card_text.proofs.Line.{archive_text, fields_end}
use Rattle.card_text.proofs.put_archive_card.Goals as goal

pub put_field-requires : goal.put_field-requires
put_field-requires c =
    (omega (arith, c.put_card-archive.ensures.place, fields_end c.args.a.card 59), omega arith, omega arith)

pub returns : goal.returns
returns c =
    stored_as _ _ _ _ _ _ (archive_text c.args.a _ c.from.ensures)
    (stored_then _ _ _ _ _ _ _ (numeral 10 1 _) (10 ∷ []) c.put_card-archive.ensures c.put_field.ensures.0)
