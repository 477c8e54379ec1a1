-- `sm160_text::text_end` meets its contract.
use borrow.Author.Rules.{rules}
use borrow.Author.Tests.{tests}
use Rattle.std.proofs.lemmas.Iterator.{YieldsList-from_slice}
use Rattle.std.proofs.lemmas.Iterator.Search.{position_from_yields_List}
use Rattle.sm160_text.specs.Text.{ends_text}
use Rattle.sm160_text.proofs.Places.{text_end_is}
use Rattle.sm160_text.proofs.text_end.Goals as goal

pub returns : goal.returns
returns c =
    text_end_is _ c.rest-rest.result.now _ _ _
    (position_from_yields_List ends_text _ _ _ c.position.ensures.ran (YieldsList-from_slice c.rest-rest.result.now cc) (λ x b q k. search (rules, tests)))
    c.rest-rest.ensures c.unwrap_or.ensures
