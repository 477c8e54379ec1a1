-- `pulsar_reply::put_archive` meets its contract.
use Rattle.pulsar_reply.proofs.Stores.{archive_stored}
use Rattle.pulsar_reply.proofs.put_archive.Goals as goal

pub returns : goal.returns
returns c =
    archive_stored _ _ _ c.args.a c.put_le32.ensures c.put_date.ensures
