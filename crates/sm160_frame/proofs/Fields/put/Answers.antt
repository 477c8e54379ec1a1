-- `sm160_frame::Fields::put` meets its contract.
use native.Mathlib.Omega.{arith}
use Rattle.sm160_frame.proofs.Stores.{covered, stored_frame}
use Rattle.sm160_frame.proofs.Fields.put.Goals as goal

pub returns : goal.returns
returns c =
    let f = c.args.self in
    let part = c.args.part.now in
    let out = c.args.out.now in
    cc (covered f.session f.offset f.flags part out (omega arith), stored_frame f.session f.offset f.flags part out (omega arith))
