-- No second answer would do, for each public function.
-- Assumes nothing.
use mathlib.Core.Path.{sym, ◌∙◌}
use mathlib.Core.List.{List}
use Prim.Native.Nat.{ℕ}
use Rattle.wire.specs.Unique.{Unique}
use Rattle.wire.specs.Writes.{Written}
use Rattle.wire.proofs.Writes.{writes_once}
use Rattle.sm160_frame.proofs.session_of.Reads as session-of
use Rattle.sm160_frame.proofs.offset_of.Reads as offset-of
use Rattle.sm160_frame.proofs.part_of.Reads as part_of
use Rattle.sm160_frame.proofs.is_start.Reads as is-start
use Rattle.sm160_frame.proofs.is_end.Reads as is-end
use Rattle.sm160_frame.proofs.bad_largest.Reads as bad-largest
use Rattle.sm160_frame.proofs.frame_fault.Reads as frame-fault
use Rattle.sm160_frame.proofs.read_frame.Reads as read_frame_lem
use Rattle.sm160_frame.proofs.write_frame.Reads as write-frame

pub session_of_unique : Unique session-of.Post (λ κs r s. r)
session_of_unique κs a r r' s s' e e' = e ∙ sym e'

pub offset_of_unique : Unique offset-of.Post (λ κs r s. r)
offset_of_unique κs a r r' s s' e e' = e ∙ sym e'

pub part_of_unique : Unique part_of.Post (λ κs r s. r.now)
part_of_unique κs a r r' s s' e e' = e ∙ sym e'

pub is_start_unique : Unique is-start.Post (λ κs r s. r)
is_start_unique κs a r r' s s' e e' = e ∙ sym e'

pub is_end_unique : Unique is-end.Post (λ κs r s. r)
is_end_unique κs a r r' s s' e e' = e ∙ sym e'

pub bad_largest_unique : Unique bad-largest.Post (λ κs r s. r)
bad_largest_unique κs a r r' s s' e e' = e ∙ sym e'

pub frame_fault_unique : Unique frame-fault.Post (λ κs r s. r)
frame_fault_unique κs a r r' s s' e e' = e ∙ sym e'

pub read_frame_unique : Unique read_frame_lem.Post (λ κs r s. r)
read_frame_unique κs a r r' s s' e e' = e ∙ sym e'

pub write_frame_unique : Unique {Y = λ κs. Written × List ℕ} write-frame.Post (λ κs r s. (r, s.1.1.1.1.0.now))
write_frame_unique κs a r r' s s' w w' = writes_once _ _ _ r r' _ _ w w'
