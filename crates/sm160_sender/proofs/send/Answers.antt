-- `sm160_sender::send` meets its contract.
use mathlib.Core.Path.{ap, ◌∙◌}
use native.Mathlib.Omega.{arith}
use lib.ListN.{take}
use Rattle.sm160_sender.proofs.Answers.{able, sends_refused, sends_no_frame, sends_frame}
use Rattle.sm160_sender.proofs.send.Goals as goal

pub returns-in_err-send_fault : goal.returns-in_err-send_fault
returns-in_err-send_fault c =
    let a = c.args in
    sends_refused a.file.now a.session a.largest a.place a.out.now _ _ c.from_residual.ensures c.in_err-send_fault.ensures

pub overflow_cast-place : goal.overflow_cast-place
overflow_cast-place c =
    let a = c.args in
    let g = able a.file.now a.session a.largest a.place a.out.now c.in_ok-send_fault.ensures in
    omega (arith, g.small, g.inside)

pub returns-in_err-length : goal.returns-in_err-length
returns-in_err-length c =
    let a = c.args in
    sends_no_frame a.file.now a.session a.largest a.place a.out.now c.in_ok-send_fault.ensures _ _ _ _ _
    (c.front-part.ensures ∙ ap (take a.largest) c.rest.ensures) c.minus-remains.ensures c.flags_for-flags.ensures c.write_frame.ensures _ _ c.from_residual-in_err-length.ensures c.in_err-length.was

pub returns : goal.returns
returns c =
    let a = c.args in
    sends_frame a.file.now a.session a.largest a.place a.out.now c.in_ok-send_fault.ensures _ _ _ _ _
    (c.front-part.ensures ∙ ap (take a.largest) c.rest.ensures) c.minus-remains.ensures c.flags_for-flags.ensures c.write_frame.ensures _ c.in_ok-length.was
