-- `sm160_frame::Fields::put_uncovered` meets its contract.
use Rattle.sm160_frame.proofs.Stores.{stored_fields}
use Rattle.sm160_frame.proofs.Fields.put_uncovered.Goals as goal

pub returns : goal.returns
returns c =
    let a = c.args in
    cc (stored_fields a.self.session a.self.offset a.self.flags a.part.now a.out.now)
