-- `clock::seconds_since_2000` meets its contract.
use Rattle.date.proofs.Laws.{all_tests, inside}
use Rattle.clock.proofs.seconds_since_2000.Goals as goal

pub common_days-requires : goal.common_days-requires
common_days-requires c = inside 1 _ 12 (all_tests c.args.d c.requires).1

pub overflow_sub-days : goal.overflow_sub-days
overflow_sub-days c = (inside 1 _ _ (all_tests c.args.d c.requires).2).0
