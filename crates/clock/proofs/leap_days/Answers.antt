-- `clock::leap_days` meets its contract.
use Rattle.clock.proofs.Days.{to_february, from_march}
use Rattle.clock.proofs.leap_days.Goals as goal

pub returns-then-month-gt2 : goal.returns-then-month-gt2
returns-then-month-gt2 c = from_march c.args.year c.args.month c.if-month-gt2.true

pub returns-else-month-gt2 : goal.returns-else-month-gt2
returns-else-month-gt2 c = to_february c.args.year c.args.month c.if-month-gt2.false
