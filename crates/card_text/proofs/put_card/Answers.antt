-- `card_text::put_card` meets its contract.
use mathlib.Core.Path.{ap, ◌∙◌}
use Rattle.reading.specs.Reading.{number_of}
use Rattle.card_text.proofs.Text.{stored_then, stored_as}
use Rattle.card_text.proofs.Line.{card_text}
use Rattle.card_text.proofs.put_card.Goals as goal

pub returns : goal.returns
returns c =
    let number = c.from.ensures ∙ ap number_of c.kind_of.ensures in
    let text = card_text c.args.card _ _ _ _ c.plain_width.ensures.0 number c.bits.ensures in
    let first = stored_then _ _ _ _ _ _ _ _ _ c.put_field-channel.ensures.0 c.put_field-start.ensures.0 in
    let middle = stored_then _ _ _ _ _ _ _ _ _ first c.put_time-kind.ensures.0 in
    stored_as _ _ _ _ _ _ text (stored_then _ _ _ _ _ _ _ _ _ (stored_then _ _ _ _ _ _ _ _ _ middle c.put_field-bits.ensures.0) c.put_field.ensures.0)
