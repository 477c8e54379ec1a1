-- `turns::Table::free_for` meets its contract.
use mathlib.Core.Path.{◌≡◌, refl, ap, ◌∙◌}
use Prim.Native.Nat.{ℕ, ◌-◌}
use Rattle.std.specs.Prelude.{Option, Result}
use Rattle.std.specs.Option.{ok_or}
use Rattle.wire.specs.Answer.{judged}
use Rattle.wire.specs.Refusal.{pick}
use Rattle.wire.specs.declared.refusals.Refusal.{Refusal}
use Rattle.turns.specs.Table.{lowest_empty}
use Rattle.turns.specs.Calls.{full}
use Rattle.wire.specs.declared.refusals.Refusal.TheVariants.{NoEmptySlot}
use Rattle.turns.proofs.Answers.{full_is}
use Rattle.turns.proofs.Places.{place_or}
use Rattle.wire.specs.Numbered.{refusal}
use Rattle.wire.proofs.Answer.{refuses, passes}
use Rattle.turns.proofs.Table.free_for.Goals as goal

pub returns-then-is_unfit : goal.returns-then-is_unfit
unfolding refusal
returns-then-is_unfit c = search (refuses, passes) depth 12

pub returns-then-no_address : goal.returns-then-no_address
unfolding refusal
returns-then-no_address c = search (refuses, passes) depth 12

pub returns-then-is_present : goal.returns-then-is_present
unfolding refusal
returns-then-is_present c = search (refuses, passes) depth 12

pub returns : goal.returns
unfolding refusal
returns c =
    let k = lowest_empty c.args.self.now in
    let none : ◌≡◌ {A = Result ℕ Refusal} c.ok_or.result (judged (k - 1) (pick (full c.args.self.now) 104 0)) =
    c.ok_or.ensures.value ∙ ap (λ (o : Option ℕ). ok_or o NoEmptySlot) c.lowest_with.ensures ∙ place_or k 103 _ _ (full_is _ k refl) refl
    in
    search (passes, none) depth 12
