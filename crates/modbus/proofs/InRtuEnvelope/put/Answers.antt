-- `modbus::InRtuEnvelope::put` meets its contract.
use mathlib.Core.Path.{sym}
use Prim.Native.Nat.{◌+◌, ◌≤◌}
use native.Mathlib.Omega.{arith}
use lib.ListN.{length}
use lib.Seq.{length-take-le}
use Rattle.modbus.specs.Envelope.{message_of}
use Rattle.modbus.specs.Rtu.{rtu}
use Rattle.modbus.proofs.Stores.{length_rtu, covered_rtu, stored_rtu}
use Rattle.modbus.proofs.Room.{left, room, stored}
use Rattle.modbus.proofs.InRtuEnvelope.put.Goals as goal

pub returns-then-is_err : goal.returns-then-is_err
returns-then-is_err c =
    left rtu (message_of c.args.m.now) c.args.out.now _ c.needed.ensures _ _ c.write_fault.ensures c.is_err.ensures.value c.if-is_err.true

pub put-requires : goal.put-requires
put-requires c =
    let m = message_of c.args.m.now in
    omega (arith, room rtu m c.args.out.now _ c.needed.ensures _ _ c.write_fault.ensures c.is_err.ensures.value c.if-is_err.false, length_rtu m.address m.function m.«data»)

pub slice_bounds-checksum-end : goal.slice_bounds-checksum-end
slice_bounds-checksum-end c =
    let m = message_of c.args.m.now in
    omega (arith, room rtu m c.args.out.now _ c.needed.ensures _ _ c.write_fault.ensures c.is_err.ensures.value c.if-is_err.false, length_rtu m.address m.function m.«data»)

pub slice_bounds-checksum-end-2 : goal.slice_bounds-checksum-end-2
slice_bounds-checksum-end-2 c =
    let m = message_of c.args.m.now in
    sym (length-take-le _ _ (omega (arith, room rtu m c.args.out.now _ c.needed.ensures _ _ c.write_fault.ensures c.is_err.ensures.value c.if-is_err.false, length_rtu m.address m.function m.«data»)))

pub returns : goal.returns
returns c =
    let m = message_of c.args.m.now in
    let within : length m.«data» + 4 ≤ length c.args.out.now = omega (arith, room rtu m c.args.out.now _ c.needed.ensures _ _ c.write_fault.ensures c.is_err.ensures.value c.if-is_err.false, length_rtu m.address m.function m.«data») in
    stored rtu m c.args.out.now _ c.needed.ensures _ _ c.write_fault.ensures c.is_err.ensures.value c.if-is_err.false _
    (cc (covered_rtu m.address m.function m.«data» c.args.out.now within, stored_rtu m.address m.function m.«data» c.args.out.now))
