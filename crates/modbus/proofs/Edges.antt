-- Both sides of each limit, and the packets that 001 prints, computed.
-- Assumes nothing.
use mathlib.Core.Path.{◌≡◌, refl}
use lib.Dec.{T}
use lib.ListN.{length, replicate}
use Rattle.checksum.specs.Crc.{remainder, crc_bits}
use Rattle.wire.specs.Numbers.{le, of_le, be, of_be, digits, number, field}
use Rattle.wire.specs.Refusal.{first, pick}
use Rattle.modbus.specs.Envelope.{message, bytes_of, write_rules}
use Rattle.modbus.specs.Rtu.{rtu, rtu_rules}
use Rattle.modbus.specs.Tcp.{tcp_head, tcp, tcp_rules}
use Rattle.modbus.specs.Printed.{all_read, printed}

-- under 4 and above 256 bytes; between, zeros have a wrong CRC
pub rtu_lengths :
    (first (rtu_rules (replicate 3 0)) ≡ 40) × (first (rtu_rules (replicate 4 0)) ≡ 44) × (first (rtu_rules (replicate 256 0)) ≡ 44) × (first (rtu_rules (replicate 257 0)) ≡ 41)
unfolding pick of_le number field remainder crc_bits
rtu_lengths = (refl, refl, refl, refl)

-- under 8 and above 260 bytes; between, zeros have a wrong length
pub tcp_lengths :
    (first (tcp_rules (replicate 7 0)) ≡ 40) × (first (tcp_rules (replicate 8 0)) ≡ 43) × (first (tcp_rules (replicate 260 0)) ≡ 43) × (first (tcp_rules (replicate 261 0)) ≡ 41)
unfolding pick of_be number field
tcp_lengths = (refl, refl, refl, refl)

-- data of 252 bytes in outputs of 256 and 255, of 253 in an output of 255
pub rtu_rooms :
    (first (write_rules (replicate 252 0) (length (bytes_of rtu (message 1 3 (replicate 252 0)))) (replicate 256 0)) ≡ 0)
    × (first (write_rules (replicate 252 0) (length (bytes_of rtu (message 1 3 (replicate 252 0)))) (replicate 255 0)) ≡ 16)
    × (first (write_rules (replicate 253 0) (length (bytes_of rtu (message 1 3 (replicate 253 0)))) (replicate 255 0)) ≡ 17)
unfolding pick bytes_of le digits
rtu_rooms = (refl, refl, refl)

-- the same in outputs of 260 and 259
pub tcp_rooms :
    (first (write_rules (replicate 252 0) (length (bytes_of (tcp 1) (message 2 3 (replicate 252 0)))) (replicate 260 0)) ≡ 0)
    × (first (write_rules (replicate 252 0) (length (bytes_of (tcp 1) (message 2 3 (replicate 252 0)))) (replicate 259 0)) ≡ 16)
    × (first (write_rules (replicate 253 0) (length (bytes_of (tcp 1) (message 2 3 (replicate 253 0)))) (replicate 259 0)) ≡ 17)
unfolding pick bytes_of tcp_head be digits
tcp_rooms = (refl, refl, refl)

pub printed_packets_read : T (all_read printed)
unfolding pick of_be number field
printed_packets_read = tt
