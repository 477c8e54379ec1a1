-- `modbus_ascii::read_ascii` meets its contract.
use mathlib.Core.Path.{sym, ◌∙◌}
use native.Mathlib.Omega.{arith}
use borrow.Author.Tests.{ltb-false}
use Rattle.std.proofs.lemmas.Result.{err_from_is_err_and}
use Rattle.modbus_ascii.proofs.Answers.{accepted_inside, refused_read, short_read, found_read}
use Rattle.modbus_ascii.proofs.read_ascii.Goals as goal

pub returns-in_err-judge : goal.returns-in_err-judge
returns-in_err-judge c =
    let a = c.args in
    let p = err_from_is_err_and c.from_residual.result c.from_residual.ensures.1 in
    rw (p.1, p.2) (refused_read a.chars.now a.out.now _ c.in_err-judge.ensures)

pub invariant_of-s : goal.invariant_of-s
invariant_of-s c = record { all = (accepted_inside c.args.chars.now c.in_ok-judge.ensures _ c.inside.ensures).0 }

pub returns-then-no_room : goal.returns-then-no_room
returns-then-no_room c =
    let a = c.args in
    short_read a.chars.now a.out.now c.in_ok-judge.ensures _ c.inside.ensures _ c.minus-n.ensures _ c.no_room.ensures c.if-no_room.true

pub put_data-requires : goal.put_data-requires
put_data-requires c =
    let there = accepted_inside c.args.chars.now c.in_ok-judge.ensures _ c.inside.ensures in
    (omega (arith, there.1, c.minus-n.ensures), ltb-false _ _ (sym c.no_room.ensures ∙ c.if-no_room.false))

pub byte_at-requires : goal.byte_at-requires
byte_at-requires c =
    let there = accepted_inside c.args.chars.now c.in_ok-judge.ensures _ c.inside.ensures in
    omega (arith, there.1)

pub byte_at-requires-2 : goal.byte_at-requires-2
byte_at-requires-2 c =
    let there = accepted_inside c.args.chars.now c.in_ok-judge.ensures _ c.inside.ensures in
    omega (arith, there.1)

pub returns : goal.returns
returns c =
    let a = c.args in
    found_read a.chars.now a.out.now c.in_ok-judge.ensures _ c.inside.ensures _ c.minus-n.ensures _ c.no_room.ensures c.if-no_room.false _ _ _ c.byte_at.ensures c.byte_at-2.ensures c.put_data.ensures
