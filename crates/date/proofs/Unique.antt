-- No second answer would do, for each public function.
-- Assumes nothing.
use mathlib.Core.Path.{sym, ◌∙◌}
use Rattle.wire.specs.Unique.{Unique}
use Rattle.date.proofs.date_at.Reads as date-at
use Rattle.date.proofs.put_date.Reads as put-date
use Rattle.date.proofs.is_date.Reads as is-date
use Rattle.date.proofs.is_no_date.Reads as is-no-date

pub date_at_unique : Unique date-at.Post (λ κs r s. r)
date_at_unique κs a r r' s s' e e' = e ∙ sym e'

pub put_date_unique : Unique put-date.Post (λ κs r s. s.0.now)
put_date_unique κs a r r' s s' e e' = e ∙ sym e'

pub is_date_unique : Unique is-date.Post (λ κs r s. r)
is_date_unique κs a r r' s s' e e' = e ∙ sym e'

pub is_no_date_unique : Unique is-no-date.Post (λ κs r s. r)
is_no_date_unique κs a r r' s s' e e' = e ∙ sym e'
