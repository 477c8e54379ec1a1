-- `turns::Table::turn` meets its contract.
use Rattle.std.proofs.lemmas.Result.{err_from_is_err_and}
use Rattle.turns.specs.Calls.{turned}
use Rattle.turns.proofs.Places.{left_refused, is_turned}
use Rattle.turns.proofs.Table.turn.Goals as goal

pub returns-in_err-next : goal.returns-in_err-next
unfolding turned
returns-in_err-next c =
    let p = err_from_is_err_and c.from_residual.result c.from_residual.ensures.1 in
    rw (p.1, p.2) (left_refused _ _ _ _ _ c.in_err-next.ensures)

pub returns : goal.returns
returns c = is_turned _ _ c.in_ok-next.ensures
