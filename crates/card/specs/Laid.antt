-- What `card::forms::CardForm` asks of a form, shown of the card of 17 bytes: the code's length and place of the spare bits are the layout's.
-- Assumes nothing.
use mathlib.Core.Path.{refl}
use native.Mathlib.Omega.{arith}
use Rattle.card.specs.Layout.{Laid, card_form}

pub card_laid : Laid card_form 17 10
card_laid = record { bytes = refl; place = refl; least = omega arith; most = omega arith; narrow = (omega arith, tt) }
