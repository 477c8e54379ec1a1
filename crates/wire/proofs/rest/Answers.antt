-- `wire::rest` meets its contract.
use mathlib.Core.Path.{sym}
use native.Mathlib.Nat.{le_of_lt, le_of_eq}
use lib.ListN.{length-drop, drop_of_length-le}
use lib.Seq.{take_all}
use Rattle.wire.proofs.rest.Goals as goal

pub returns-then-n-s : goal.returns-then-n-s
returns-then-n-s c =
    let a = c.args in
    take_all _ _ (le_of_eq (length-drop a.n a.s.now))

pub returns-else-n-s : goal.returns-else-n-s
returns-else-n-s c = sym (drop_of_length-le _ (le_of_lt c.if-n-s.false))
