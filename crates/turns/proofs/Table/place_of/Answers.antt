-- `turns::Table::place_of` meets its contract.
use borrow.Author.Tests.{eq-eqb, ne_eqb}
use Rattle.wire.specs.Numbered.{refusal}
use Rattle.wire.proofs.Answer.{refuses, passes}
use Rattle.turns.proofs.Table.place_of.Goals as goal

pub returns-then-is_unfit : goal.returns-then-is_unfit
unfolding refusal
returns-then-is_unfit c = search (refuses, passes) depth 12

pub returns-then-no_slot : goal.returns-then-no_slot
unfolding refusal
returns-then-no_slot c = search (refuses, passes) depth 12

pub returns-then-self-slot-eq0 : goal.returns-then-self-slot-eq0
unfolding refusal
returns-then-self-slot-eq0 c = let empty = eq-eqb _ _ c.if-self-slot-eq0.true in search (refuses, passes) depth 12

pub returns : goal.returns
returns c = let there = ne_eqb _ _ c.if-self-slot-eq0.false in search passes depth 12
