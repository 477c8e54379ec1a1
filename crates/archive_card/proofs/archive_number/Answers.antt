-- `archive_card::archive_number` meets its contract.
use mathlib.Core.Path.{◌∙◌}
use native.Mathlib.Omega.{arith}
use Rattle.archive_card.proofs.Form.{archive_found, archive_fits}
use Rattle.archive_card.proofs.archive_number.Goals as goal

pub overflow_cast-result : goal.overflow_cast-result
overflow_cast-result c =
    let s = c.args.bytes.now in
    let e = c.field_at.ensures ∙ archive_found s in
    omega (arith, e, archive_fits s)

pub returns : goal.returns
returns c = c.field_at.ensures ∙ archive_found _
