-- `sm160_read_file::Text::put` meets its contract.
use Rattle.sm160_read_file.proofs.Stores.{stored_text}
use Rattle.sm160_read_file.proofs.Text.put.Goals as goal

pub returns : goal.returns
returns c =
    let a = c.args in
    cc (stored_text a.self.now.bytes.now a.out.now a.at)
