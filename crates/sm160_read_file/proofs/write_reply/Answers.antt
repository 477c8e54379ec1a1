-- `sm160_read_file::write_reply` meets its contract.
use Prim.Native.Nat.{◌+◌}
use lib.ListN.{length}
use Rattle.wire.proofs.Writes.{writes_all}
use Rattle.sm160_read_file.specs.Writing.{reply_bytes}
use Rattle.sm160_read_file.proofs.Order.{MayWrite, writes_handed, may_write}
use Rattle.sm160_read_file.proofs.Stores.{reply_length}
use Rattle.sm160_read_file.proofs.write_reply.Goals as goal
use Rattle.sm160_read_file.proofs.write_reply.Goals.{In_ok-n}

pub returns-in_err-n : goal.returns-in_err-n
returns-in_err-n c =
    let a = c.args in
    writes_handed a.message.now (reply_bytes a.status a.message.now a.content.now) a.out.now _ (reply_length a.status a.message.now a.content.now) _ _ c.from_residual.ensures c.in_err-n.ensures

-- where a length is due: the message is short, and there is room
may : (c : In_ok-n) → MayWrite c.args.message.now (reply_bytes c.args.status c.args.message.now c.args.content.now) c.args.out.now (length c.args.message.now + length c.args.content.now + 25) c.in_ok-n.n
may c =
    let a = c.args in
    may_write a.message.now (reply_bytes a.status a.message.now a.content.now) a.out.now _ (reply_length a.status a.message.now a.content.now) _ c.in_ok-n.ensures

pub invariant_of-put_reply : goal.invariant_of-put_reply
invariant_of-put_reply c = record { short = (may (goal.at.invariant_of-put_reply c).In_ok-n).0 }

pub put_reply-requires : goal.put_reply-requires
put_reply-requires c = (may (goal.at.put_reply-requires c).In_ok-n).1

pub returns : goal.returns
returns c =
    let m = may (goal.at.returns c).In_ok-n in
    writes_all _ _ _ _ _ m.2 m.3 c.put_reply.ensures
