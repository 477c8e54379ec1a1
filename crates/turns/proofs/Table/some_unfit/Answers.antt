-- `turns::Table::some_unfit` meets its contract.
use mathlib.Core.Path.{refl, sym, ap, ◌∙◌}
use native.Mathlib.Omega.{arith}
use Rattle.turns.specs.Table.{first_of}
use Rattle.turns.proofs.Round.{same_way, found_up, passed_up, all_passed, found_some, none_some}
use Rattle.turns.proofs.Fitness.{none_seen}
use Rattle.turns.proofs.Places.{not_seen_there, one_seen_there}
use Rattle.turns.proofs.Table.some_unfit.Goals as goal

pub loop-at-init : goal.loop-at-init
loop-at-init c = record { whole = ap (first_of _) (same_way 0 32 32 refl); seen = none_seen _ _ refl }

pub unfit_slot-requires-clause-unseen_once : goal.unfit_slot-requires-clause-unseen_once
unfit_slot-requires-clause-unseen_once c = not_seen_there _ _ _ c.loop-at-test.true c.loop-at.invariant.seen

pub returns-then-unfit_slot : goal.returns-then-unfit_slot
returns-then-unfit_slot c = found_some _ _ (found_up _ _ _ c.loop-at.invariant.whole (omega arith) (sym c.unfit_slot.ensures ∙ c.if-unfit_slot.true))

pub loop-at-preserved : goal.loop-at-preserved
loop-at-preserved c =
    record {
      whole = passed_up _ _ _ c.loop-at.invariant.whole (omega arith) (sym c.unfit_slot.ensures ∙ c.if-unfit_slot.false);
      seen = one_seen_there _ _ _ c.loop-at.invariant.seen;
    }

pub returns : goal.returns
returns c = none_some _ (all_passed _ _ _ c.loop-at.invariant.whole c.loop-at-test.false)
