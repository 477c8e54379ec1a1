-- `date::is_date` meets its contract.
use mathlib.Core.Path.{refl}
use Rattle.date.specs.Date.{is_date}
use Rattle.date.proofs.is_date.Goals as goal

pub returns : goal.returns
unfolding is_date
returns c =
    rw (c.is_within-6.ensures, c.is_within-5.ensures, c.is_within-4.ensures, c.is_within-3.ensures, c.days_of.ensures, c.is_within-2.ensures, c.is_within.ensures) refl
