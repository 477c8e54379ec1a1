-- `sm160_datagram::first_bytes` meets its contract.
use mathlib.Core.Path.{◌∙◌}
use Rattle.wire.proofs.Writing.{over_zeros}
use Rattle.sm160_datagram.proofs.Stretches.{taken_field}
use Rattle.sm160_datagram.proofs.first_bytes.Goals as goal

pub returns-in-Some : goal.returns-in-Some
returns-in-Some g c =
    let chunk = c.in-Some.ensures.cases in
    chunk.same ∙ taken_field c.args.bytes.now g.row.W chunk.enough

pub returns : goal.returns
returns g c = cc (over_zeros g.row.W c.args.bytes.now)
