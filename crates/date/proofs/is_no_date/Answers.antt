-- `date::is_no_date` meets its contract.
use mathlib.Core.Bool.{and_assoc}
use Rattle.date.specs.Date.{is_no_date}
use Rattle.date.proofs.is_no_date.Goals as goal

pub returns : goal.returns
unfolding is_no_date
returns c = simp and_assoc c.eq.ensures
