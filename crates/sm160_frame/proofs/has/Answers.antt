-- `sm160_frame::has` meets its contract.
use Rattle.sm160_frame.proofs.Flags.{has_tested}
use Rattle.sm160_frame.proofs.has.Goals as goal

pub returns : goal.returns
returns c = has_tested c.args.flag c.args.flags c.requires
