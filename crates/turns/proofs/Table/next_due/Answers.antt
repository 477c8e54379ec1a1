-- `turns::Table::next_due` meets its contract.
use mathlib.Core.Path.{◌≡◌, refl, ap, ◌∙◌}
use Prim.Native.Nat.{ℕ, ◌-◌}
use Rattle.std.specs.Prelude.{Option, Result}
use Rattle.std.specs.Option.{ok_or}
use Rattle.wire.specs.Answer.{judged}
use Rattle.wire.specs.Refusal.{pick}
use Rattle.wire.specs.declared.refusals.Refusal.{Refusal}
use Rattle.turns.specs.Table.{next_due}
use Rattle.turns.specs.Calls.{none_due}
use Rattle.wire.specs.declared.refusals.Refusal.TheVariants.{NobodyDue}
use Rattle.turns.proofs.Answers.{none_due_is}
use Rattle.turns.proofs.Places.{place_or}
use Rattle.wire.specs.Numbered.{refusal}
use Rattle.wire.proofs.Answer.{refuses, passes}
use Rattle.turns.proofs.Table.next_due.Goals as goal

pub returns-then-is_unfit : goal.returns-then-is_unfit
unfolding refusal
returns-then-is_unfit c = search (refuses, passes) depth 12

pub returns : goal.returns
unfolding refusal
returns c =
    let k = next_due c.args.self.now in
    let none : ◌≡◌ {A = Result ℕ Refusal} c.ok_or.result (judged (k - 1) (pick (none_due c.args.self.now) 105 0)) =
    c.ok_or.ensures.value ∙ ap (λ (o : Option ℕ). ok_or o NobodyDue) c.next_after.ensures ∙ place_or k 104 _ _ (none_due_is _ _ k refl) refl
    in
    search (passes, none) depth 12
