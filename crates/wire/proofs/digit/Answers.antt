-- `wire::digit` meets its contract.
use Rattle.wire.specs.Digits.{ascii, digit}
use Rattle.wire.proofs.digit.Goals as goal

pub returns : goal.returns
unfolding digit ascii
returns c = c.byte_at.ensures
