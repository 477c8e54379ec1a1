-- `pulsar_frame::write::write_frame` meets its contract.
use mathlib.Core.Path.{refl, sym, ◌∙◌}
use borrow.Author.Tests.{ltb-false}
use Rattle.wire.specs.Numbered.{refusal}
use Rattle.wire.proofs.Rules.{hit, skip}
use Rattle.wire.proofs.Writes.{writes_refused, writes_all}
use Rattle.pulsar_frame.proofs.Stores.{length_frame, over_frame_lem}
use Rattle.pulsar_frame.proofs.write.write_frame.Goals as goal

pub returns-then-too_long : goal.returns-then-too_long
unfolding refusal
returns-then-too_long c = writes_refused _ _ 16 _ _ (search (hit, skip) depth 4) refl refl

pub returns-then-no_room : goal.returns-then-no_room
unfolding refusal
returns-then-no_room c = writes_refused _ _ 15 _ _ (search (hit, skip) depth 4) refl refl

pub returns : goal.returns
returns c =
    let a = c.args in
    let room = ltb-false _ _ (sym c.no_room.ensures ∙ c.if-no_room.false) in
    writes_all _ _ _ _ _ (search skip depth 4) (sym (length_frame a.names.address a.names.function a.names.id a.payload.now))
    (over_frame_lem a.names.address a.names.function a.names.id a.payload.now a.out.now _ room c.put_frame.ensures)
