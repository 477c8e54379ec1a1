-- `sm160_receiver::Receiver::is_unfit` meets its contract.
use mathlib.Core.Path.{refl}
use Rattle.sm160_receiver.specs.Receiving.{unfit}
use Rattle.sm160_receiver.proofs.Receiver.is_unfit.Goals as goal

pub returns : goal.returns
unfolding unfit
returns c = rw c.bad_largest.ensures refl
