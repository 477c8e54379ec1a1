-- `turns::Table::unfit_slot` meets its contract.
use mathlib.Core.Path.{ap, ◌∙◌}
use mathlib.Core.Bool.{not}
use Prim.Native.Nat.{ℕ}
use lib.Dec.{eqb}
use Rattle.std.specs.Prelude.{Option, Some}
use Rattle.std.specs.Option.{option_eq}
use Rattle.turns.proofs.Fitness.{no_address_there, address_there, alone_there}
use Rattle.turns.proofs.Places.{other_place}
use Rattle.turns.proofs.Table.unfit_slot.Goals as goal

pub returns-then-no_address : goal.returns-then-no_address
returns-then-no_address c = no_address_there _ _ _ _ c.no_address.ensures c.if-no_address.true

pub returns-then-seen : goal.returns-then-seen
returns-then-seen c =
    c.ne.ensures
    ∙ ap (λ (o : Option ℕ). not (option_eq eqb o (Some c.args.at))) c.lowest_with.ensures
    ∙ other_place _ c.args.at
    ∙ address_there _ c.args.self.now.due _ _ c.no_address.ensures c.if-no_address.false

pub returns : goal.returns
returns c = alone_there _ _ _ _ c.no_address.ensures c.if-no_address.false (c.requires.unseen_once c.if-seen.false)
