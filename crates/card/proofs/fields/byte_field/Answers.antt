-- `card::fields::byte_field` meets its contract.
use Rattle.card.proofs.Widths.{field_byte}
use Rattle.card.proofs.fields.byte_field.Goals as goal

pub overflow_cast-result : goal.overflow_cast-result
overflow_cast-result c = record { fits = rw c.field.ensures (field_byte _ _ c.requires) }
