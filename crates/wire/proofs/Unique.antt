-- No second answer would do, for each public function.
-- Assumes nothing.
use mathlib.Core.Path.{sym, ◌∙◌}
use Rattle.wire.specs.Unique.{Unique}
use Rattle.wire.proofs.minus.Reads as minus
use Rattle.wire.proofs.front.Reads as front
use Rattle.wire.proofs.rest.Reads as rest
use Rattle.wire.proofs.byte_at.Reads as byte_at
use Rattle.wire.proofs.le16_at.Reads as le16-at
use Rattle.wire.proofs.le32_at.Reads as le32-at
use Rattle.wire.proofs.le64_at.Reads as le64-at
use Rattle.wire.proofs.be16_at.Reads as be16-at
use Rattle.wire.proofs.bcd32.Reads as bcd32
use Rattle.wire.proofs.is_bcd32.Reads as is-bcd32
use Rattle.wire.proofs.put.Reads as put
use Rattle.wire.proofs.put_all.Reads as put_all_lem
use Rattle.wire.proofs.put_le16.Reads as put-le16
use Rattle.wire.proofs.put_le32.Reads as put-le32
use Rattle.wire.proofs.put_le64.Reads as put-le64
use Rattle.wire.proofs.put_be16.Reads as put-be16
use Rattle.wire.proofs.put_bcd32.Reads as put-bcd32
use Rattle.wire.proofs.digit.Reads as digit
use Rattle.wire.proofs.digit_of.Reads as digit-of
use Rattle.wire.proofs.refusals.Refusal.number.Reads as number
use Rattle.wire.proofs.refusals.U8FromRefusal.from.Reads as from-refusal

pub minus_unique : Unique minus.Post (λ κs r s. r)
minus_unique κs a r r' s s' e e' = e ∙ sym e'

pub front_unique : Unique front.Post (λ κs r s. r.now)
front_unique κs a r r' s s' e e' = e ∙ sym e'

pub rest_unique : Unique rest.Post (λ κs r s. r.now)
rest_unique κs a r r' s s' e e' = e ∙ sym e'

pub byte_at_unique : Unique byte_at.Post (λ κs r s. r)
byte_at_unique κs a r r' s s' e e' = e ∙ sym e'

pub le16_at_unique : Unique le16-at.Post (λ κs r s. r)
le16_at_unique κs a r r' s s' e e' = e ∙ sym e'

pub le32_at_unique : Unique le32-at.Post (λ κs r s. r)
le32_at_unique κs a r r' s s' e e' = e ∙ sym e'

pub le64_at_unique : Unique le64-at.Post (λ κs r s. r)
le64_at_unique κs a r r' s s' e e' = e ∙ sym e'

pub be16_at_unique : Unique be16-at.Post (λ κs r s. r)
be16_at_unique κs a r r' s s' e e' = e ∙ sym e'

pub bcd32_unique : Unique bcd32.Post (λ κs r s. r)
bcd32_unique κs a r r' s s' e e' = e ∙ sym e'

pub is_bcd32_unique : Unique is-bcd32.Post (λ κs r s. r)
is_bcd32_unique κs a r r' s s' e e' = e ∙ sym e'

pub put_unique : Unique put.Post (λ κs r s. s.0.now)
put_unique κs a r r' s s' e e' = e ∙ sym e'

pub put_all_unique : Unique put_all_lem.Post (λ κs r s. s.0.now)
put_all_unique κs a r r' s s' e e' = e ∙ sym e'

pub put_le16_unique : Unique put-le16.Post (λ κs r s. s.0.now)
put_le16_unique κs a r r' s s' e e' = e ∙ sym e'

pub put_le32_unique : Unique put-le32.Post (λ κs r s. s.0.now)
put_le32_unique κs a r r' s s' e e' = e ∙ sym e'

pub put_le64_unique : Unique put-le64.Post (λ κs r s. s.0.now)
put_le64_unique κs a r r' s s' e e' = e ∙ sym e'

pub put_be16_unique : Unique put-be16.Post (λ κs r s. s.0.now)
put_be16_unique κs a r r' s s' e e' = e ∙ sym e'

pub put_bcd32_unique : Unique put-bcd32.Post (λ κs r s. s.0.now)
put_bcd32_unique κs a r r' s s' e e' = e ∙ sym e'

pub digit_unique : Unique digit.Post (λ κs r s. r)
digit_unique κs a r r' s s' e e' = e ∙ sym e'

pub digit_of_unique : Unique digit-of.Post (λ κs r s. r)
digit_of_unique κs a r r' s s' e e' = e ∙ sym e'

pub number_unique : Unique number.Post (λ κs r s. r)
number_unique κs a r r' s s' e e' = e ∙ sym e'

pub from_refusal_unique : Unique from-refusal.Post (λ κs r s. r)
from_refusal_unique κs a r r' s s' e e' = e ∙ sym e'
