-- `card_text::put_line` meets its contract.
use mathlib.Core.Path.{refl, ◌∙◌}
use Rattle.card_text.proofs.Line.{line_front, writes_of}
use Rattle.card_text.proofs.put_line.Goals as goal

pub returns : goal.returns
returns c = writes_of _ _ _ _ _ (c.front.ensures ∙ line_front c.args.entry _ _ _ refl c.make_line-n.ensures) c.put_text.ensures
