-- `wire::put_all` meets its contract.
use mathlib.Core.Path.{sym, ◌∙◌}
use native.Mathlib.Omega.{arith}
use Rattle.wire.proofs.Writing.{put_part, sets_part, sets_out, part_fits}
use Rattle.wire.proofs.put_all.Goals as goal

pub returns-then-at-out : goal.returns-then-at-out
returns-then-at-out c =
    let fits = part_fits _ _ _ _ c.front-part.ensures c.minus.ensures in
    put_part _ _ _ _ c.copy_from_slice.ensures.after (omega (arith, c.if-at-out.true))
    ∙ sets_part _ _ _ _ _ c.front-part.ensures c.minus.ensures

pub returns-else-at-out : goal.returns-else-at-out
returns-else-at-out c = sym (sets_out c.args.out.now _ c.args.src.now c.if-at-out.false)
