-- No second answer would do, for each public function.
-- Assumes nothing.
use mathlib.Core.Path.{sym, ◌∙◌}
use mathlib.Core.List.{List}
use Prim.Native.Nat.{ℕ}
use Rattle.wire.specs.Unique.{Unique}
use Rattle.wire.specs.Writes.{Written}
use Rattle.wire.proofs.Writes.{writes_once}
use Rattle.sm160_datagram.proofs.datagram_fault.Reads as datagram-fault
use Rattle.sm160_datagram.proofs.fault_of.Reads as fault-of
use Rattle.sm160_datagram.proofs.options_of.Reads as options-of
use Rattle.sm160_datagram.proofs.data_of.Reads as data_of
use Rattle.sm160_datagram.proofs.read_datagram.Reads as read-datagram
use Rattle.sm160_datagram.proofs.put_opening.Reads as put-opening
use Rattle.sm160_datagram.proofs.put_closing.Reads as put-closing
use Rattle.sm160_datagram.proofs.write_datagram.Reads as write-datagram

pub datagram_fault_unique : Unique datagram-fault.Post (λ κs r s. r)
datagram_fault_unique κs a r r' s s' e e' = e ∙ sym e'

pub fault_of_unique : Unique fault-of.Post (λ κs r s. r)
fault_of_unique κs a r r' s s' e e' = e ∙ sym e'

pub options_of_unique : Unique options-of.Post (λ κs r s. r.now)
options_of_unique κs a r r' s s' e e' = e ∙ sym e'

pub data_of_unique : Unique data_of.Post (λ κs r s. r.now)
data_of_unique κs a r r' s s' e e' = e ∙ sym e'

pub read_datagram_unique : Unique read-datagram.Post (λ κs r s. r)
read_datagram_unique κs a r r' s s' e e' = e ∙ sym e'

pub put_opening_unique : Unique put-opening.Post (λ κs r s. s.0.now)
put_opening_unique κs a r r' s s' e e' = e ∙ sym e'

pub put_closing_unique : Unique put-closing.Post (λ κs r s. s.0.now)
put_closing_unique κs a r r' s s' e e' = e ∙ sym e'

pub write_datagram_unique : Unique {Y = λ κs. Written × List ℕ} write-datagram.Post (λ κs r s. (r, s.1.1.1.0.now))
write_datagram_unique κs a r r' s s' w w' = writes_once _ _ _ r r' _ _ w w'
