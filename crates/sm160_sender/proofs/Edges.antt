-- Both sides of each limit of the sender, over the smallest datagram, computed.
-- Assumes nothing.
use mathlib.Core.Path.{◌≡◌, refl}
use mathlib.Core.List.{List, [], ◌∷◌, ◌++◌}
use Prim.Native.Nat.{ℕ}
use lib.ListN.{replicate}
use Rattle.wire.specs.Numbers.{digits, number, le, of_le, field}
use Rattle.wire.specs.Refusal.{first, pick}
use Rattle.checksum.specs.Crc.{crc_bits, remainder}
use Rattle.checksum.specs.Crc32.{crc32_from}
use Rattle.sm160_datagram.specs.Layout.{opening_bytes, covered_bytes, closing_bytes, datagram_bytes, crc_due}
use Rattle.sm160_sender.specs.Sending.{flags_at, send_rules}

-- of 18 bytes, and one that says of itself that it is compressed
abbrev smallest : List ℕ
smallest = datagram_bytes 7 [] []

abbrev flagged : List ℕ
flagged =
    let covered : List ℕ = 7 ∷ 1 ∷ 0 ∷ 0 ∷ 0 ∷ 0 ∷ [] in
    covered ++ closing_bytes 0 covered

-- an empty file is refused first, then largest parts 0 and 241, also of a file that is no datagram; then such a file, also at its end
pub send_datagrams :
    (first (send_rules [] 0 0 0) ≡ 32)
    × (first (send_rules (replicate 17 0) 0 17 0) ≡ 33)
    × (first (send_rules (replicate 17 0) 241 17 0) ≡ 33)
    × (first (send_rules (replicate 17 0) 240 17 0) ≡ 37)
    × (first (send_rules (replicate 18 0) 240 18 0) ≡ 38)
    × (first (send_rules flagged 240 18 0) ≡ 39)
unfolding pick digits number le of_le field crc_bits remainder crc32_from closing_bytes crc_due
send_datagrams = (refl, refl, refl, refl, refl, refl)

-- largest parts 1 and 240; the last place and the end; an output of 12 and the part, and one byte less
pub send_limits :
    (first (send_rules smallest 1 0 13) ≡ 0)
    × (first (send_rules smallest 240 0 30) ≡ 0)
    × (first (send_rules smallest 240 17 13) ≡ 0)
    × (first (send_rules smallest 240 18 0) ≡ 34)
    × (first (send_rules smallest 240 0 29) ≡ 16)
unfolding pick digits number le of_le field crc_bits remainder crc32_from opening_bytes covered_bytes closing_bytes datagram_bytes crc_due
send_limits = (refl, refl, refl, refl, refl)

-- a file of the largest part is one frame with START and END; of parts of one byte, START is on the first, nothing on the second, END on the third
pub send_flags :
    (flags_at (replicate 3 7) 3 0 ≡ 6) × (flags_at (replicate 3 7) 1 0 ≡ 2) × (flags_at (replicate 3 7) 1 1 ≡ 0) × (flags_at (replicate 3 7) 1 2 ≡ 4)
send_flags = (refl, refl, refl, refl)
