-- No second answer would do, for each public function.
-- Assumes nothing.
use mathlib.Core.Path.{sym, ◌∙◌}
use Rattle.wire.specs.Unique.{Unique}
use Rattle.archive.proofs.type_from.Reads as type-from
use Rattle.archive.proofs.type_number.Reads as type-number
use Rattle.archive.proofs.U8FromArchiveKind.from.Reads as from-kind
use Rattle.archive.proofs.source_from.Reads as source-from
use Rattle.archive.proofs.source_number.Reads as source-number
use Rattle.archive.proofs.U8FromSource.from.Reads as from-source

pub type_from_unique : Unique type-from.Post (λ κs r s. r)
type_from_unique κs a r r' s s' e e' = e ∙ sym e'

pub type_number_unique : Unique type-number.Post (λ κs r s. r)
type_number_unique κs a r r' s s' e e' = e ∙ sym e'

pub source_from_unique : Unique source-from.Post (λ κs r s. r)
source_from_unique κs a r r' s s' e e' = e ∙ sym e'

pub source_number_unique : Unique source-number.Post (λ κs r s. r)
source_number_unique κs a r r' s s' e e' = e ∙ sym e'

pub from_kind_unique : Unique from-kind.Post (λ κs r s. r)
from_kind_unique κs a r r' s s' e e' = e ∙ sym e'

pub from_source_unique : Unique from-source.Post (λ κs r s. r)
from_source_unique κs a r r' s s' e e' = e ∙ sym e'
