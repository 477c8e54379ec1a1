-- `turns::Table::add` meets its contract.
use Rattle.std.proofs.lemmas.Result.{err_from_is_err_and}
use Rattle.turns.specs.Calls.{added}
use Rattle.turns.proofs.Places.{left_refused, is_added}
use Rattle.turns.proofs.Table.add.Goals as goal

pub returns-in_err-free : goal.returns-in_err-free
unfolding added
returns-in_err-free c =
    let p = err_from_is_err_and c.from_residual.result c.from_residual.ensures.1 in
    rw (p.1, p.2) (left_refused _ _ _ _ _ c.in_err-free.ensures)

pub returns : goal.returns
returns c = is_added _ _ _ c.in_ok-free.ensures
