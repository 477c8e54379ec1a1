-- `wire::put_bcd32` meets its contract.
use Rattle.wire.specs.Numbers.{bcd, digits}
use Rattle.wire.proofs.put_bcd32.Goals as goal

pub returns : goal.returns
unfolding bcd digits
returns c = cc
