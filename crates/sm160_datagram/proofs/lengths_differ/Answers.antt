-- `sm160_datagram::lengths_differ` meets its contract.
use Rattle.sm160_datagram.proofs.Stretches.{differ_tested}
use Rattle.sm160_datagram.proofs.lengths_differ.Goals as goal

pub returns : goal.returns
returns c = cc (differ_tested c.args.n c.args.options c.args.content)
