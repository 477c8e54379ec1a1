-- `sm160_receiver::Receiver::take` meets its contract.
use Rattle.sm160_receiver.proofs.Steps.{refused_before, refused_after, none_refused, took_refused, took_accepted}
use Rattle.sm160_receiver.proofs.Receiver.take.Goals as goal

pub returns-in_err-fault : goal.returns-in_err-fault
returns-in_err-fault c =
    let s = c.args.self.now in
    let f = c.args.frame.now in
    let b = c.args.buffer.now in
    took_refused s f b _ _ c.from_residual.ensures (refused_before s f b _ c.in_err-fault.ensures)

pub returns-in_err-file_fault : goal.returns-in_err-file_fault
returns-in_err-file_fault c =
    let s = c.args.self.now in
    let f = c.args.frame.now in
    let b = c.args.buffer.now in
    took_refused s f b _ _ c.from_residual-in_err-file_fault.ensures (refused_after s f b _ c.in_ok-fault.ensures c.in_err-file_fault.ensures)

pub accept-taken-requires : goal.accept-taken-requires
accept-taken-requires c =
    let a = c.args in
    none_refused a.self.now a.frame.now a.buffer.now c.in_ok-fault.ensures c.in_ok-file_fault.ensures

pub returns : goal.returns
returns c =
    let a = c.args in
    took_accepted a.self.now a.frame.now a.buffer.now _ _ _ (none_refused a.self.now a.frame.now a.buffer.now c.in_ok-fault.ensures c.in_ok-file_fault.ensures) c.accept-taken.ensures
