-- `sm160_frame::write_frame` meets its contract.
use mathlib.Core.Path.{refl, sym, ◌∙◌}
use borrow.Author.Tests.{lt-ltb, le-ltb}
use Rattle.wire.specs.Numbered.{refusal}
use Rattle.wire.proofs.Rules.{hit, skip}
use Rattle.wire.proofs.Writes.{writes_refused, writes_all}
use Rattle.sm160_frame.proofs.Stores.{length_frame, small_part}
use borrow.Author.Rules.{rules}
use Rattle.sm160_frame.proofs.write_frame.Goals as goal

pub returns-then-bad_part : goal.returns-then-bad_part
unfolding refusal
returns-then-bad_part c = writes_refused _ _ 22 _ _ (search (hit, skip) depth 12) refl refl

pub returns-then-bad_flags : goal.returns-then-bad_flags
unfolding refusal
returns-then-bad_flags c = writes_refused _ _ 24 _ _ (search (hit, skip) depth 12) refl refl

pub returns-then-out-n : goal.returns-then-out-n
unfolding refusal
returns-then-out-n c =
    let room = lt-ltb _ _ c.if-out-n.true in
    writes_refused _ _ 15 _ _ (search (hit, skip) depth 12) refl refl

pub put-requires : goal.put-requires
put-requires c =
    (small_part _ c.args.part.now (sym c.bad_part.ensures ∙ c.if-bad_part.false), search rules)

pub returns : goal.returns
returns c =
    let room = le-ltb _ _ c.if-out-n.false in
    let a = c.args in
    writes_all _ _ _ _ _ (search skip depth 12) (sym (length_frame a.session a.offset a.flags a.part.now)) c.put.ensures
