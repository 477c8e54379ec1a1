-- `adi_reply::put_registers` meets its contract.
use native.Mathlib.Omega.{arith}
use Rattle.wire.proofs.Writing.{sets_more}
use Rattle.adi_reply.proofs.put_registers.Goals as goal

pub loop-i-preserved : goal.loop-i-preserved
loop-i-preserved c =
    let l = c.loop-i in
    rw l.invariant (sets_more _ _ c.args.registers.now l.i (omega arith))
