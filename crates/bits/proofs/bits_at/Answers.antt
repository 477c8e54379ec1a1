-- `bits::bits_at` meets its contract.
use mathlib.Core.Path.{◌∙◌}
use Rattle.bits.proofs.Read.{bits_few, bits_many}
use Rattle.bits.proofs.bits_at.Goals as goal

pub returns-then-w-lt64 : goal.returns-then-w-lt64
returns-then-w-lt64 c = bits_few _ _ _ _ _ c.if-w-lt64.true c.word_at.ensures c.without_low.ensures

pub returns-else-w-lt64 : goal.returns-else-w-lt64
returns-else-w-lt64 c = c.word_at-else-w-lt64.ensures ∙ bits_many _ _ _ c.if-w-lt64.false
