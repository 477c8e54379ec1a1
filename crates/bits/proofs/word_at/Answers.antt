-- `bits::word_at` meets its contract.
use Rattle.bits.proofs.Read.{word_from}
use Rattle.bits.proofs.word_at.Goals as goal

pub returns : goal.returns
returns c = word_from _ _ _ _ _ _ c.eight_at.ensures c.byte_at.ensures c.byte_at.type_inv c.without_low.ensures c.with_low.ensures
