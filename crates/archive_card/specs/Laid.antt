-- What `card::forms::CardForm` asks of a form, shown of the card of 18 bytes: the code's length and place of the spare bits are the layout's.
-- Assumes nothing.
use mathlib.Core.Path.{refl}
use native.Mathlib.Omega.{arith}
use Rattle.card.specs.Layout.{Laid}
use Rattle.archive_card.specs.Layout.{archive_form}

pub archive_laid : Laid archive_form 18 11
archive_laid = record { bytes = refl; place = refl; least = omega arith; most = omega arith; narrow = (omega arith, (omega arith, tt)) }
