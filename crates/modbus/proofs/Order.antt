-- First in order and only when its condition holds: the number told is that of the first rule, for both readers and for every writer of an envelope.
-- Assumes nothing.
use mathlib.Core.Path.{refl}
use mathlib.Core.List.{List}
use Prim.Native.Nat.{ℕ}
use lib.ListN.{length}
use Rattle.wire.specs.Refusal.{FirstInOrder}
use Rattle.wire.specs.Writes.{Written, told_written}
use Rattle.wire.specs.Answer.{refuse}
use Rattle.wire.proofs.Answer.{named_first}
use Rattle.wire.proofs.Writes.{written_first}
use Rattle.modbus.specs.Envelope.{Message, Envelope, bytes_of, said_by, write_rules, WritesEnvelope}
use Rattle.modbus.specs.Rtu.{rtu, rtu_rules, found_rtu, read_rtu, told_rtu_read}
use Rattle.modbus.specs.Tcp.{transaction_of, tcp_rules, tcp_said, found_tcp, read_tcp, told_tcp_read}

pub rtu_first : (s : List ℕ) → FirstInOrder (rtu_rules s) (told_rtu_read (read_rtu s)).number
unfolding read_rtu
rtu_first s = named_first refuse (found_rtu (said_by rtu s)) (λ r. (told_rtu_read r).number) (λ n. refl) (rtu_rules s) tt refl

pub tcp_first : (s : List ℕ) → FirstInOrder (tcp_rules s) (told_tcp_read (read_tcp s)).number
unfolding read_tcp
tcp_first s = named_first refuse (found_tcp (transaction_of s) (tcp_said s)) (λ r. (told_tcp_read r).number) (λ n. refl) (tcp_rules s) tt refl

-- any writer of any envelope
pub envelope_first : (e : Envelope) (m : Message) (out : List ℕ) (r : Written) (out' : List ℕ) → WritesEnvelope e m out r out'
    → FirstInOrder (write_rules m.«data» (length (bytes_of e m)) out) (told_written r).number
envelope_first e m out r out' w = written_first (write_rules m.«data» (length (bytes_of e m)) out) (bytes_of e m) out r out' tt w
