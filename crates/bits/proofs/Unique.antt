-- No second answer would do, for each public function.
-- Assumes nothing.
use mathlib.Core.Path.{sym, ◌∙◌}
use Rattle.wire.specs.Unique.{Unique}
use Rattle.bits.proofs.field_at.Reads as field_at
use Rattle.bits.proofs.put_word.Reads as put_word
use Rattle.bits.proofs.word_before.Reads as word-before

pub field_at_unique : Unique field_at.Post (λ κs r s. r)
field_at_unique κs a r r' s s' e e' = e ∙ sym e'

pub word_before_unique : Unique word-before.Post (λ κs r s. r)
word_before_unique κs a r r' s s' e e' = e ∙ sym e'

pub put_word_unique : Unique put_word.Post (λ κs r s. s.0.now)
put_word_unique κs a r r' s s' e e' = e ∙ sym e'
