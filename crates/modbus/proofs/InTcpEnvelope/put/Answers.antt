-- `modbus::InTcpEnvelope::put` meets its contract.
use native.Mathlib.Omega.{arith}
use Rattle.modbus.specs.Envelope.{message_of}
use Rattle.modbus.specs.Tcp.{tcp}
use Rattle.modbus.proofs.Stores.{length_tcp, stored_tcp}
use Rattle.modbus.proofs.Room.{left, small, room, stored}
use Rattle.modbus.proofs.InTcpEnvelope.put.Goals as goal

pub returns-then-is_err : goal.returns-then-is_err
returns-then-is_err c =
    left (tcp c.args.self.now.transaction) (message_of c.args.m.now) c.args.out.now _ c.needed.ensures _ _ c.write_fault.ensures c.is_err.ensures.value c.if-is_err.true

pub overflow_cast-m : goal.overflow_cast-m
overflow_cast-m c = omega (arith, small (tcp c.args.self.now.transaction) (message_of c.args.m.now) c.args.out.now _ c.needed.ensures _ _ c.write_fault.ensures c.is_err.ensures.value c.if-is_err.false)

pub put-requires : goal.put-requires
put-requires c =
    let m = message_of c.args.m.now in
    let t = c.args.self.now.transaction in
    omega (arith, room (tcp t) m c.args.out.now _ c.needed.ensures _ _ c.write_fault.ensures c.is_err.ensures.value c.if-is_err.false, length_tcp t m.address m.function m.«data»)

pub returns : goal.returns
returns c =
    let m = message_of c.args.m.now in
    let t = c.args.self.now.transaction in
    stored (tcp t) m c.args.out.now _ c.needed.ensures _ _ c.write_fault.ensures c.is_err.ensures.value c.if-is_err.false _ (cc (stored_tcp t m.address m.function m.«data» c.args.out.now))
