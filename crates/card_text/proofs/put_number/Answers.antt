-- `card_text::put_number` meets its contract. The loop's invariant: the i digits that are left to store, over what is stored, give the whole.
use mathlib.Core.Path.{refl}
use Rattle.card_text.proofs.Text.{left_less, left_none}
use Rattle.card_text.proofs.put_number.Goals as goal

pub loop-i-preserved : goal.loop-i-preserved
loop-i-preserved c = rw c.put.ensures (left_less _ _ _ _ _ _ _ _ c.loop-i.invariant c.loop-i-test.true _ _ refl c.digit.ensures)

pub returns : goal.returns
returns c = left_none _ _ _ _ _ _ _ _ c.loop-i.invariant c.loop-i-test.false
