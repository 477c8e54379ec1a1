-- `sm160_datagram::write_datagram` meets its contract.
use mathlib.Core.Path.{refl, sym}
use borrow.Author.Tests.{lt-ltb, le-ltb}
use Rattle.wire.specs.Numbered.{refusal}
use Rattle.wire.proofs.Rules.{hit, skip}
use Rattle.wire.proofs.Writes.{writes_refused, writes_all}
use Rattle.sm160_datagram.proofs.Bytes.{length_datagram}
use Rattle.sm160_datagram.proofs.write_datagram.Goals as goal

pub returns-then-options-gt4294967295 : goal.returns-then-options-gt4294967295
unfolding refusal
returns-then-options-gt4294967295 c =
    let long = lt-ltb _ _ c.if-options-gt4294967295.true in
    writes_refused _ _ 36 _ _ (search hit depth 12) refl refl

pub returns-then-out-n : goal.returns-then-out-n
unfolding refusal
returns-then-out-n c =
    let short = le-ltb _ _ c.if-options-gt4294967295.false in
    let room = lt-ltb _ _ c.if-out-n.true in
    writes_refused _ _ 15 _ _ (search (hit, skip) depth 12) refl refl

pub returns : goal.returns
returns c =
    let a = c.args in
    let short = le-ltb _ _ c.if-options-gt4294967295.false in
    let room = le-ltb _ _ c.if-out-n.false in
    writes_all _ _ _ _ _ (search skip depth 12) (sym (length_datagram a.kind a.options.now a.content.now)) c.put_datagram.ensures
