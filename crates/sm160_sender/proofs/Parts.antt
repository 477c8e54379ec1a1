-- The part at a place: its length, and the file from the place on as the part and the file from the next place on; the flags that a frame has.
-- Assumes nothing.
use mathlib.Core.Path.{◌≡◌, refl, ap, ◌∙◌}
use mathlib.Core.Bool.{Bool, true, false}
use mathlib.Core.List.{List, [], ◌∷◌}
use Prim.Native.Nat.{ℕ, ◌-◌, ◌≤◌, ◌<◌, min}
use native.Mathlib.Nat.{min-le_left, min-le_right, le-min}
use native.Mathlib.Omega.{arith}
use lib.Dec.{ltb, eqb}
use lib.ListN.{length, drop, length-take, length-drop}
use borrow.Author.Tests.{ltb-false, leb-false, ne_eqb, le-ltb}
use Rattle.wire.specs.Refusal.{◌when◌, NoneHolds}
use Rattle.wire.proofs.Bools.{or_neither, neither_or}
use Rattle.sm160_frame.specs.Layout.{START, END, has}
use Rattle.sm160_frame.specs.Reading.{LARGEST, bad_largest, bad_part, bad_flags}
use Rattle.sm160_frame.proofs.Limit.{largest_from}
use Rattle.sm160_datagram.specs.Reading.{datagram_fault}
use Rattle.sm160_datagram.proofs.Order.{datagram_none, none_datagram}
use Rattle.sm160_sender.specs.Sending.{part_at, next_place, flags_for, bad_file, past_end, no_room, send_rules}

-- what the sender has found where it does not refuse by 32 to 39
pub record Sendable (file : List ℕ) (largest place : ℕ) : Type 0 where
  pub small : length file ≤ 4294967295
  pub least : 1 ≤ largest
  pub most : largest ≤ LARGEST
  pub whole : datagram_fault file ≡ 0
  pub inside : place < length file

module _ (file : List ℕ) (largest place : ℕ) where
  pub sendable : bad_file file ≡ false → bad_largest largest ≡ false → datagram_fault file ≡ 0 → past_end file place ≡ false → Sendable file largest place
  sendable a b d c =
      let l = largest_from largest b in
      record {
        small = ltb-false 4294967295 (length file) (or_neither (eqb (length file) 0) (ltb 4294967295 (length file)) a).1;
        least = l.0;
        most = l.1;
        whole = d;
        inside = leb-false (length file) place c;
      }

  -- none of its rules holds: so it may, and there is room; and back
  module _ (room : ℕ) where
    pub may_send : NoneHolds (send_rules file largest place room) → Sendable file largest place × (no_room file largest place room ≡ false)
    may_send h =
        let d = datagram_none file (34 when past_end file place ∷ 16 when no_room file largest place room ∷ []) h.1.1 in
        (sendable h.0 h.1.0 d.0 d.1.0, d.1.1.0)

    pub sends_none : bad_file file ≡ false → bad_largest largest ≡ false → datagram_fault file ≡ 0 → past_end file place ≡ false → no_room file largest place room ≡ false
        → NoneHolds (send_rules file largest place room)
    sends_none a b d c e = (a, (b, none_datagram file (34 when past_end file place ∷ 16 when no_room file largest place room ∷ []) d (c, (e, tt))))

  pub length_part : Sendable file largest place
      → (1 ≤ length (part_at file largest place)) × (length (part_at file largest place) ≤ largest) × (next_place file largest place ≤ length file)
  length_part g =
      let n : length (part_at file largest place) ≡ min largest (length file - place) = length-take largest (drop place file) ∙ ap (min largest) (length-drop place file) in
      let one : 1 ≤ min largest (length file - place) = le-min g.least (omega (arith, g.inside)) in
      let left = min-le_left largest (length file - place) in
      let right = min-le_right largest (length file - place) in
      (omega arith, omega arith, omega (arith, g.inside))

  -- with every limit that the largest part is within
  pub good_part : Sendable file largest place → (limit : ℕ) → largest ≤ limit → bad_part limit (part_at file largest place) ≡ false
  good_part g limit h =
      let n = length_part g in
      let p = part_at file largest place in
      neither_or (eqb (length p) 0) (ltb limit (length p)) (ne_eqb (length p) 0 (λ z. omega (arith, n.0, z))) (le-ltb limit (length p) (omega (arith, n.1, h)))

-- a frame's flags say START and END as they are to be, and nothing else
pub record Flagged (start end : Bool) : Type 0 where
  pub starts : has START (flags_for start end) ≡ start
  pub ends : has END (flags_for start end) ≡ end
  pub good : bad_flags (flags_for start end) ≡ false
  pub few : flags_for start end ≤ 6

pub flagged : (start end : Bool) → Flagged start end
flagged true true = record { starts = refl; ends = refl; good = refl; few = omega arith }
flagged true false = record { starts = refl; ends = refl; good = refl; few = omega arith }
flagged false true = record { starts = refl; ends = refl; good = refl; few = omega arith }
flagged false false = record { starts = refl; ends = refl; good = refl; few = omega arith }
