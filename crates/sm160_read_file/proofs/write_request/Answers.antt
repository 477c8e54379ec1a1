-- `sm160_read_file::write_request` meets its contract.
use mathlib.Core.Path.{◌∙◌}
use Prim.Native.Nat.{◌+◌}
use native.Mathlib.Omega.{arith}
use lib.ListN.{length}
use Rattle.wire.proofs.Writes.{writes_all}
use Rattle.sm160_read_file.specs.Writing.{request_bytes}
use Rattle.sm160_read_file.proofs.Order.{MayWrite, writes_handed, may_write}
use Rattle.sm160_read_file.proofs.Stores.{request_length}
use Rattle.sm160_read_file.proofs.write_request.Goals as goal
use Rattle.sm160_read_file.proofs.write_request.Goals.{In_ok-n}

pub returns-in_err-n : goal.returns-in_err-n
returns-in_err-n c =
    let a = c.args in
    writes_handed a.name.now (request_bytes a.offset a.size a.name.now) a.out.now _ (request_length a.offset a.size a.name.now ∙ omega arith) _ _ c.from_residual.ensures c.in_err-n.ensures

-- where a length is due: the name is short, and there is room
may : (c : In_ok-n) → MayWrite c.args.name.now (request_bytes c.args.offset c.args.size c.args.name.now) c.args.out.now (length c.args.name.now + 0 + 37) c.in_ok-n.n
may c =
    let a = c.args in
    may_write a.name.now (request_bytes a.offset a.size a.name.now) a.out.now _ (request_length a.offset a.size a.name.now ∙ omega arith) _ c.in_ok-n.ensures

pub invariant_of-put_request : goal.invariant_of-put_request
invariant_of-put_request c = record { short = (may (goal.at.invariant_of-put_request c).In_ok-n).0 }

pub put_request-requires : goal.put_request-requires
put_request-requires c = omega (arith, (may (goal.at.put_request-requires c).In_ok-n).1)

pub returns : goal.returns
returns c =
    let m = may (goal.at.returns c).In_ok-n in
    writes_all _ _ _ _ _ m.2 m.3 c.put_request.ensures
