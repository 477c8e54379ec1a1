-- `sm160_read_file::put_request` meets its contract.
use Rattle.sm160_read_file.proofs.Stores.{stored_request, whole_request}
use Rattle.sm160_read_file.proofs.put_request.Goals as goal

pub returns : goal.returns
returns c =
    let a = c.args in
    cc (stored_request a.offset a.size a.name.bytes.now a.out.now, whole_request a.offset a.size a.name.bytes.now a.out.now c.requires)
