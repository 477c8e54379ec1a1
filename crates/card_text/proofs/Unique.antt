-- No second answer would do, for each public function.
-- Assumes nothing.
use mathlib.Core.Path.{sym, ap₂, ◌∙◌}
use mathlib.Core.List.{List}
use Prim.Native.Nat.{ℕ}
use Rattle.wire.specs.Unique.{Unique}
use Rattle.wire.specs.Writes.{Written}
use Rattle.wire.proofs.Writes.{writes_once}
use Rattle.card_text.proofs.make_line.Reads as make-line
use Rattle.card_text.proofs.line_length.Reads as line_length_lem
use Rattle.card_text.proofs.put_header.Reads as put-header
use Rattle.card_text.proofs.put_line.Reads as put-line

pub make_line_unique : Unique {Y = λ κs. ℕ × List ℕ} make-line.Post (λ κs r s. (r, s.0.now))
make_line_unique κs a r r' s s' e e' = ap₂ (λ (n : ℕ) (l : List ℕ). (n, l)) (e.place ∙ sym e'.place) (e.output ∙ sym e'.output)

pub line_length_unique : Unique line_length_lem.Post (λ κs r s. r)
line_length_unique κs a r r' s s' e e' = e ∙ sym e'

pub put_header_unique : Unique {Y = λ κs. Written × List ℕ} put-header.Post (λ κs r s. (r, s.1.0.now))
put_header_unique κs a r r' s s' w w' = writes_once _ _ _ _ _ _ _ w w'

pub put_line_unique : Unique {Y = λ κs. Written × List ℕ} put-line.Post (λ κs r s. (r, s.1.0.now))
put_line_unique κs a r r' s s' w w' = writes_once _ _ _ _ _ _ _ w w'
