-- An RTU envelope that comes in several buffers: row 44 is judged by its sum, without a copy.
-- Assumes nothing.
use mathlib.Core.Path.{◌≡◌, sym, ap, ◌∙◌}
use mathlib.Core.Bool.{false, not}
use mathlib.Core.List.{List, flatten}
use Prim.Native.Nat.{ℕ, ◌+◌, ◌-◌, ◌≤◌}
use native.Mathlib.Omega.{arith}
use lib.Dec.{eqb, lit<}
use lib.ListN.{length, take}
use lib.Seq.{take_all}
use borrow.Author.Tests.{ltb-false}
use Rattle.checksum.specs.Stretches.{InTurn}
use Rattle.checksum.proofs.Stretches.{Sums, closes_in_turn}
use Rattle.wire.specs.Each.{Bytes}
use Rattle.modbus.specs.Rtu.{rtu_short, bad_crc}

-- the bytes received, cut into stretches anywhere and summed in turn from FFFF: the CRC differs exactly if they do not give 0
pub rtu_in_stretches : (s : List ℕ) (stretches : List (List ℕ)) (sum : ℕ) → Bytes s → rtu_short s ≡ false
    → flatten stretches ≡ s → InTurn Sums 0xFFFF stretches sum → bad_crc s ≡ not (eqb sum 0)
rtu_in_stretches s stretches sum hb long cut turns =
    let n = length s - 2 in
    let least : 4 ≤ length s = ltb-false (length s) 4 long in
    let all : s ≡ take (n + 2) s = sym (take_all (n + 2) s (omega arith)) in
    ap not (closes_in_turn 0xFFFF s n stretches sum (lit< tt) hb (omega (arith, least)) (cut ∙ all) turns)
