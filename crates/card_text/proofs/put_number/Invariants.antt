-- `card_text::put_number` meets its contract. The loop's invariant: the i digits that are left to store, over what is stored, give the whole.
use Rattle.card_text.proofs.Text.{Left}
use Rattle.card_text.proofs.put_number.Given as goal

abbrev pub invariant-loop-i : goal.invariant-loop-i
invariant-loop-i l = Left l.initial.out l.at l.base l.w l.v l.out l.i l.left
