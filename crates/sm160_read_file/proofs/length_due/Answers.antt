-- `sm160_read_file::length_due` meets its contract.
use borrow.Author.Tests.{lt-ltb, le-ltb}
use Rattle.wire.specs.Numbered.{refusal}
use Rattle.wire.proofs.Answer.{refuses, passes}
use Rattle.sm160_read_file.proofs.length_due.Goals as goal

pub returns-then-text-gt65535 : goal.returns-then-text-gt65535
unfolding refusal
returns-then-text-gt65535 c =
    let long = lt-ltb _ _ c.if-text-gt65535.true in
    search refuses depth 12

pub returns-then-room-n : goal.returns-then-room-n
unfolding refusal
returns-then-room-n c =
    let short = le-ltb _ _ c.if-text-gt65535.false in
    let few = lt-ltb _ _ c.if-room-n.true in
    search (refuses, passes) depth 12

pub returns : goal.returns
returns c =
    let short = le-ltb _ _ c.if-text-gt65535.false in
    let enough = le-ltb _ _ c.if-room-n.false in
    search passes depth 12
