-- `sm160_text::text` meets its contract.
use Rattle.sm160_text.proofs.Places.{text_as}
use Rattle.sm160_text.proofs.text.Goals as goal

pub returns : goal.returns
returns c = text_as _ _ _ _ _ c.front.ensures c.minus.ensures c.rest.ensures
