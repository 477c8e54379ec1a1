-- No second answer would do, for each public function.
-- Assumes nothing.
use mathlib.Core.Path.{sym, ◌∙◌}
use Rattle.wire.specs.Unique.{Unique}
use Rattle.pulsar_line.proofs.new.Reads as new
use Rattle.pulsar_line.proofs.push.Reads as push
use Rattle.pulsar_line.proofs.silence.Reads as silence

pub new_unique : Unique new.Post (λ κs r s. r)
new_unique κs a r r' s s' e e' = e ∙ sym e'

pub push_unique : Unique push.Post (λ κs r s. r)
push_unique κs a r r' s s' e e' = e ∙ sym e'

pub silence_unique : Unique silence.Post (λ κs r s. r)
silence_unique κs a r r' s s' e e' = e ∙ sym e'
