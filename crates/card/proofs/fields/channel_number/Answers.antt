-- `card::fields::channel_number` meets its contract.
use native.Mathlib.Omega.{arith}
use Rattle.card.proofs.Widths.{field_fits}
use Rattle.card.proofs.fields.channel_number.Goals as goal

pub overflow_add-result : goal.overflow_add-result
overflow_add-result c = omega (arith, c.byte_field.ensures, field_fits c.args.bytes.now 1)
