-- `sm160_devices::write_device` meets its contract.
use mathlib.Core.Path.{refl, sym, ◌∙◌}
use Rattle.std.proofs.lemmas.Result.{err_from_is_err_and}
use Rattle.wire.proofs.Answer.{none_judged}
use Rattle.wire.proofs.Rules.{first_named}
use Rattle.wire.proofs.Writes.{writes_judged, writes_all}
use Rattle.sm160_devices.specs.Writing.{device_rules}
use Rattle.sm160_devices.proofs.Stores.{fits, stored_over}
use Rattle.sm160_devices.proofs.write_device.Goals as goal

pub put-requires : goal.put-requires
put-requires c = fits _ _ _ _ _ (none_judged (tt {0}) _ _ c.in_ok-judge.ensures)

pub returns-in_err-judge : goal.returns-in_err-judge
returns-in_err-judge c =
    let a = c.args in
    let p = err_from_is_err_and c.from_residual.result c.from_residual.ensures.1 in
    rw (p.1, p.2) (writes_judged _ _ (tt {0}) _ _ _ c.in_err-judge.ensures refl (first_named (device_rules a.d.now a.k.now a.s.now a.out.now) tt))

pub returns : goal.returns
returns c =
    let a = c.args in
    let none = none_judged (tt {0}) _ _ c.in_ok-judge.ensures in
    writes_all _ _ _ _ _ (sym none) c.put.ensures.1 (c.put.ensures.0 ∙ stored_over a.d.now a.k.now a.s.now a.out.now (fits _ _ _ _ _ none))
