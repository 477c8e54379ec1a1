-- `card::fields::address_of` meets its contract.
use native.Mathlib.Omega.{arith}
use Rattle.card.proofs.Widths.{field_fits}
use Rattle.card.proofs.fields.address_of.Goals as goal

pub overflow_cast-result : goal.overflow_cast-result
overflow_cast-result c = omega (arith, c.field.ensures, field_fits c.args.bytes.now 0)
