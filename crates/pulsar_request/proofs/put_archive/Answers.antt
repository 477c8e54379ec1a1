-- `pulsar_request::put_archive` meets its contract.
use Rattle.pulsar_request.proofs.Stores.{archive_stored}
use Rattle.pulsar_request.proofs.put_archive.Goals as goal

pub returns : goal.returns
returns c =
    let a = c.args.a in
    archive_stored _ _ _ _ _ a _ c.put_le32.ensures c.from.ensures c.put_le16.ensures c.put_date.ensures c.put_date-2.ensures
