-- `card_text::put_field` meets its contract.
use native.Mathlib.Omega.{arith}
use Rattle.card_text.proofs.Text.{stored_field}
use Rattle.card_text.proofs.put_field.Goals as goal

pub returns : goal.returns
returns c = (stored_field _ _ _ _ _ _ _ _ c.put_number.ensures c.put.ensures, omega (arith, c.requires.2))
