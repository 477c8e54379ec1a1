-- `card_text::put_time` meets its contract.
use native.Mathlib.Omega.{arith}
use Rattle.card_text.proofs.Text.{stored_then, stored_as}
use Rattle.card_text.proofs.Line.{time_text_lem}
use Rattle.card_text.proofs.put_time.Goals as goal

-- the whole text, piece after piece
pub returns : goal.returns
returns c =
    let months = stored_then _ _ _ _ _ _ _ _ _ c.put_field-month.ensures.0 c.put_field-day.ensures.0 in
    let days = stored_then _ _ _ _ _ _ _ _ _ months c.put_field-hour.ensures.0 in
    let hours = stored_then _ _ _ _ _ _ _ _ _ days c.put_field-minute.ensures.0 in
    let minutes = stored_then _ _ _ _ _ _ _ _ _ hours c.put_field-second.ensures.0 in (
      stored_as _ _ _ _ _ _ (time_text_lem c.args.time) (stored_then _ _ _ _ _ _ _ _ _ minutes c.put_field.ensures.0),
      omega (arith, c.put_field-month.ensures.1, c.put_field-day.ensures.1, c.put_field-hour.ensures.1, c.put_field-minute.ensures.1, c.put_field-second.ensures.1, c.put_field.ensures.1),
    )
