-- `card::forms::spare_set` meets its contract.
use mathlib.Core.Path.{ap, ◌∙◌}
use mathlib.Core.Bool.{not}
use Prim.Native.Nat.{ℕ}
use lib.Dec.{eqb}
use Rattle.card.proofs.Widths.{form_spare}
use Rattle.card.proofs.forms.spare_set.Goals as goal

pub returns : goal.returns
returns g c = ap (λ (n : ℕ). not (eqb n 0)) (form_spare g.F.CardForm.form _ _ _ (c.SPARE.ensures ∙ g.met.F.CardForm.laid.place) c.field_at.ensures)
