-- `turns::Table::lowest_with` meets its contract.
use mathlib.Core.Path.{◌∙◌}
use lib.Dec.{eqb}
use borrow.Author.Rules.{rules}
use borrow.Author.Tests.{tests}
use Rattle.std.proofs.lemmas.Iterator.{YieldsList-from_slice}
use Rattle.std.proofs.lemmas.Iterator.Search.{position_from_yields_List}
use Rattle.turns.proofs.Places.{lowest_is}
use Rattle.turns.proofs.Table.lowest_with.Goals as goal

pub returns : goal.returns
returns c =
    position_from_yields_List (λ x. eqb x c.args.address) _ _ _ c.position.ensures.ran (YieldsList-from_slice c.args.self.now.addresses cc) (λ x b q k. search (rules, tests))
    ∙ lowest_is c.args.self.now.addresses c.args.address (search rules)
