-- A frame that comes in several buffers: row 5 is judged by its sum, without a copy.
-- Assumes nothing.
use mathlib.Core.Path.{◌≡◌, ap, ◌∙◌}
use mathlib.Core.Bool.{not}
use mathlib.Core.List.{List, flatten}
use Prim.Native.Nat.{ℕ, ◌+◌, ◌-◌, ◌≤◌}
use native.Mathlib.Omega.{arith}
use lib.Dec.{eqb, lit<}
use lib.ListN.{length, take}
use Rattle.checksum.specs.Stretches.{InTurn}
use Rattle.checksum.proofs.Stretches.{Sums, closes_in_turn}
use Rattle.wire.specs.Each.{Bytes}
use Rattle.pulsar_frame.specs.Layout.{len_of}
use Rattle.pulsar_frame.specs.Reading.{bad_crc}

-- the LEN bytes of a frame, cut into stretches anywhere and summed in turn from FFFF: CRC differs exactly if they do not give 0
pub frame_in_stretches : (s : List ℕ) (stretches : List (List ℕ)) (sum : ℕ) → Bytes s → 10 ≤ len_of s → len_of s ≤ length s
    → flatten stretches ≡ take (len_of s) s → InTurn Sums 0xFFFF stretches sum → bad_crc s ≡ not (eqb sum 0)
frame_in_stretches s stretches sum hb least most cut turns =
    let n = len_of s - 2 in
    let two : len_of s ≡ n + 2 = omega (arith, least) in
    ap not (closes_in_turn 0xFFFF s n stretches sum (lit< tt) hb (omega (arith, least, most)) (cut ∙ ap (λ (k : ℕ). take k s) two) turns)
