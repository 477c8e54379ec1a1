-- `card_text::put_refused` meets its contract.
use mathlib.Core.Path.{refl}
use mathlib.Core.List.{[], ◌∷◌}
use Rattle.wire.specs.Digits.{ascii}
use Rattle.card_text.specs.Text.{numeral}
use Rattle.card_text.proofs.Text.{stored_then, stored_as}
use Rattle.card_text.proofs.Line.{refused_text}
use Rattle.card_text.proofs.put_refused.Goals as goal

pub returns : goal.returns
unfolding ascii
returns c =
    stored_as _ _ _ _ _ _ (refused_text _ _ c.plain_width.ensures.0)
    (stored_then _ _ _ _ _ _ (ascii "refused ") (numeral 10 _ _) (10 ∷ []) (record { output = c.put_all.ensures; place = refl }) c.put_field.ensures.0)
