-- `turns::Table::set_due` meets its contract.
use Rattle.std.proofs.lemmas.Result.{err_from_is_err_and}
use Prim.Native.Nat.{ℕ}
use lib.ListN.{set}
use Rattle.turns.specs.Calls.{changed}
use Rattle.turns.proofs.Places.{left_refused, is_changed}
use Rattle.turns.proofs.Table.set_due.Goals as goal

pub returns-in_err-at : goal.returns-in_err-at
unfolding changed
returns-in_err-at c =
    let p = err_from_is_err_and c.from_residual.result c.from_residual.ensures.1 in
    rw (p.1, p.2) (left_refused _ _ _ _ _ c.in_err-at.ensures)

pub returns : goal.returns
returns c =
    let t = c.args.self.now in
    is_changed t _ _ c.in_ok-at.ensures (λ (i : ℕ). record { addresses = t.addresses; due = set t.due i c.args.value; last = t.last })
