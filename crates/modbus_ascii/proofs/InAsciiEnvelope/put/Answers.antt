-- `modbus_ascii::InAsciiEnvelope::put` meets its contract.
use native.Mathlib.Omega.{arith}
use Rattle.modbus.specs.Envelope.{message_of}
use Rattle.modbus.proofs.Room.{left, small, room, stored}
use Rattle.modbus_ascii.specs.Ascii.{ascii}
use Rattle.modbus_ascii.proofs.Steps.{length_ascii, stored_ascii}
use Rattle.modbus_ascii.proofs.InAsciiEnvelope.put.Goals as goal

pub returns-then-is_err : goal.returns-then-is_err
returns-then-is_err c =
    left ascii (message_of c.args.m.now) c.args.out.now _ c.needed.ensures _ _ c.write_fault.ensures c.is_err.ensures.value c.if-is_err.true

pub put_byte-requires : goal.put_byte-requires
put_byte-requires c =
    let m = message_of c.args.m.now in
    omega (arith, room ascii m c.args.out.now _ c.needed.ensures _ _ c.write_fault.ensures c.is_err.ensures.value c.if-is_err.false, length_ascii m.address m.function m.«data»)

pub put_byte-requires-2 : goal.put_byte-requires-2
put_byte-requires-2 c =
    let m = message_of c.args.m.now in
    omega (arith, room ascii m c.args.out.now _ c.needed.ensures _ _ c.write_fault.ensures c.is_err.ensures.value c.if-is_err.false, length_ascii m.address m.function m.«data»)

pub put_hex-requires : goal.put_hex-requires
put_hex-requires c =
    let m = message_of c.args.m.now in
    omega (arith, room ascii m c.args.out.now _ c.needed.ensures _ _ c.write_fault.ensures c.is_err.ensures.value c.if-is_err.false, length_ascii m.address m.function m.«data»)

pub overflow_add-m : goal.overflow_add-m
overflow_add-m c = record { fits = omega (arith, small ascii (message_of c.args.m.now) c.args.out.now _ c.needed.ensures _ _ c.write_fault.ensures c.is_err.ensures.value c.if-is_err.false) }

pub put_end-requires : goal.put_end-requires
put_end-requires c =
    let m = message_of c.args.m.now in
    omega (arith, room ascii m c.args.out.now _ c.needed.ensures _ _ c.write_fault.ensures c.is_err.ensures.value c.if-is_err.false, length_ascii m.address m.function m.«data»)

pub returns : goal.returns
returns c =
    let m = message_of c.args.m.now in
    stored ascii m c.args.out.now _ c.needed.ensures _ _ c.write_fault.ensures c.is_err.ensures.value c.if-is_err.false _
    (cc (stored_ascii c.args.out.now m.address m.function m.«data»))
