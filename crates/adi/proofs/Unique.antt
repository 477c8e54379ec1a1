-- No second answer would do, for each public function.
-- Assumes nothing.
use mathlib.Core.Path.{sym, ◌∙◌}
use Rattle.wire.specs.Unique.{Unique}
use Rattle.adi.proofs.contents_number.Reads as contents-number
use Rattle.adi.proofs.read_descriptor.Reads as read-descriptor
use Rattle.adi.proofs.head.not_function.Reads as not-function
use Rattle.adi.proofs.head.other_count.Reads as other-count
use Rattle.adi.proofs.ContentsTryFromU16.try_from.Reads as contents-try-from
use Rattle.adi.proofs.U8FromContents.from.Reads as number-from-contents

pub contents_number_unique : Unique contents-number.Post (λ κs r s. r)
contents_number_unique κs a r r' s s' e e' = e ∙ sym e'

pub read_descriptor_unique : Unique read-descriptor.Post (λ κs r s. r)
read_descriptor_unique κs a r r' s s' e e' = e ∙ sym e'

pub not_function_unique : Unique not-function.Post (λ κs r s. r)
not_function_unique κs a r r' s s' e e' = e ∙ sym e'

pub other_count_unique : Unique other-count.Post (λ κs r s. r)
other_count_unique κs a r r' s s' e e' = e ∙ sym e'

-- conversions, and the methods of traits, as each impl has them
pub contents_try_from_unique : Unique contents-try-from.Post (λ κs r s. r)
contents_try_from_unique κs a r r' s s' e e' = e ∙ sym e'

pub number_from_contents_unique : Unique number-from-contents.Post (λ κs r s. r)
number_from_contents_unique κs a r r' s s' e e' = e ∙ sym e'
