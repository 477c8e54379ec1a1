-- `sm160_read_file::put_reply` meets its contract.
use Rattle.sm160_read_file.proofs.Stores.{stored_reply, whole_reply}
use Rattle.sm160_read_file.proofs.put_reply.Goals as goal

pub returns : goal.returns
returns c =
    let a = c.args in
    cc (stored_reply a.status a.message.bytes.now a.content.now a.out.now, whole_reply a.status a.message.bytes.now a.content.now a.out.now c.requires)
