-- No second answer would do, for each public function.
-- Assumes nothing.
use mathlib.Core.Path.{sym, ◌∙◌}
use mathlib.Core.List.{List}
use Prim.Native.Nat.{ℕ}
use denote.RattleType.{RattleType}
use denote.Param.Laws.{Laws}
use mir.Syntax.{Dict}
use Rattle.modbus.specs.declared.envelope.Envelope.{Ghosts}
use Rattle.wire.specs.Unique.{Unique}
use Rattle.wire.specs.Writes.{Written}
use Rattle.wire.proofs.Writes.{writes_once}
use Rattle.modbus.proofs.read_rtu.Reads as read-rtu
use Rattle.modbus.proofs.rtu_data.Reads as rtu-data
use Rattle.modbus.proofs.rtu_pdu.Reads as rtu-pdu
use Rattle.modbus.proofs.write_rtu.Reads as write-rtu
use Rattle.modbus.proofs.read_tcp.Reads as read-tcp
use Rattle.modbus.proofs.tcp_data.Reads as tcp-data
use Rattle.modbus.proofs.tcp_pdu.Reads as tcp-pdu
use Rattle.modbus.proofs.write_tcp.Reads as write-tcp
use Rattle.modbus.proofs.InRtuEnvelope.needed.Reads as rtu-needed
use Rattle.modbus.proofs.InRtuEnvelope.put.Reads as rtu-put
use Rattle.modbus.proofs.InTcpEnvelope.needed.Reads as tcp-needed
use Rattle.modbus.proofs.InTcpEnvelope.put.Reads as tcp-put
use Rattle.modbus.proofs.envelope.too_short.Reads as too_short
use Rattle.modbus.proofs.envelope.too_long.Reads as too_long
use Rattle.modbus.proofs.envelope.no_room.Reads as no_room
use Rattle.modbus.proofs.envelope.write_fault.Reads as write-fault
use Rattle.modbus.proofs.envelope.between.Reads as between
use Rattle.modbus.proofs.envelope.write.Reads as write

pub read_rtu_unique : Unique read-rtu.Post (λ κs r s. r)
read_rtu_unique κs a r r' s s' e e' = e ∙ sym e'

pub rtu_data_unique : Unique rtu-data.Post (λ κs r s. r.now)
rtu_data_unique κs a r r' s s' e e' = e ∙ sym e'

pub rtu_pdu_unique : Unique rtu-pdu.Post (λ κs r s. r.now)
rtu_pdu_unique κs a r r' s s' e e' = e ∙ sym e'

pub write_rtu_unique : Unique {Y = λ κs. Written × List ℕ} write-rtu.Post (λ κs r s. (r, s.1.1.1.0.now))
write_rtu_unique κs a r r' s s' w w' = writes_once _ _ _ _ _ _ _ w w'

pub read_tcp_unique : Unique read-tcp.Post (λ κs r s. r)
read_tcp_unique κs a r r' s s' e e' = e ∙ sym e'

pub tcp_data_unique : Unique tcp-data.Post (λ κs r s. r.now)
tcp_data_unique κs a r r' s s' e e' = e ∙ sym e'

pub tcp_pdu_unique : Unique tcp-pdu.Post (λ κs r s. r.now)
tcp_pdu_unique κs a r r' s s' e e' = e ∙ sym e'

pub write_tcp_unique : Unique {Y = λ κs. Written × List ℕ} write-tcp.Post (λ κs r s. (r, s.1.1.1.1.0.now))
write_tcp_unique κs a r r' s s' w w' = writes_once _ _ _ _ _ _ _ w w'

pub too_short_unique : Unique too_short.Post (λ κs r s. r)
too_short_unique κs a r r' s s' e e' = e ∙ sym e'

pub too_long_unique : Unique too_long.Post (λ κs r s. r)
too_long_unique κs a r r' s s' e e' = e ∙ sym e'

pub no_room_unique : Unique no_room.Post (λ κs r s. r)
no_room_unique κs a r r' s s' e e' = e ∙ sym e'

pub write_fault_unique : Unique write-fault.Post (λ κs r s. r)
write_fault_unique κs a r r' s s' e e' = e ∙ sym e'

pub between_unique : Unique between.Post (λ κs r s. r.now)
between_unique κs a r r' s s' e e' = e ∙ sym e'

-- of any envelope
pub write_unique : (E : RattleType) (laws : Laws E) (ghosts : Ghosts E.Denot) (dict : Dict) → Unique {Y = λ κs. Written × List ℕ} (write.Post E laws ghosts dict) (λ κs r s. (r, s.1.1.0.now))
write_unique E laws ghosts dict κs a r r' s s' w w' = writes_once _ _ _ _ _ _ _ w w'

-- the methods of `Envelope`, as each impl has them
pub rtu_needed_unique : Unique rtu-needed.Post (λ κs r s. r)
rtu_needed_unique κs a r r' s s' e e' = e ∙ sym e'

pub rtu_put_unique : Unique rtu-put.Post (λ κs r s. s.1.1.0.now)
rtu_put_unique κs a r r' s s' e e' = e ∙ sym e'

pub tcp_needed_unique : Unique tcp-needed.Post (λ κs r s. r)
tcp_needed_unique κs a r r' s s' e e' = e ∙ sym e'

pub tcp_put_unique : Unique tcp-put.Post (λ κs r s. s.1.1.0.now)
tcp_put_unique κs a r r' s s' e e' = e ∙ sym e'
