-- `sm160_read_file::bad_request` meets its contract.
use Rattle.sm160_read_file.proofs.Order.{data_in}
use Rattle.sm160_read_file.proofs.bad_request.Goals as goal

pub returns : goal.returns
returns c =
    let pre = c.requires in
    cc (pre.1, data_in _ pre.0)
