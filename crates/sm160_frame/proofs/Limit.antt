-- The limit of a frame's part: which numbers it can be, and which frames are good with it.
-- Assumes nothing.
use mathlib.Core.Path.{◌≡◌}
use mathlib.Core.Bool.{false}
use mathlib.Core.List.{List}
use Prim.Native.Nat.{ℕ, ◌≤◌}
use native.Mathlib.Omega.{arith}
use borrow.Author.Tests.{ltb-false, eqb-false, le-ltb, ne_eqb}
use lib.Dec.{eqb, ltb}
use lib.ListN.{length}
use Rattle.wire.proofs.Bools.{or_neither, neither_or}
use Rattle.wire.proofs.Rules.{first_none, none_first}
use Rattle.sm160_frame.specs.Layout.{part_of}
use Rattle.sm160_frame.specs.Reading.{LARGEST, bad_largest, frame_rules, frame_fault}

-- ---- a largest part that is not refused is a number from 1 to 240
pub largest_from : (largest : ℕ) → bad_largest largest ≡ false → (1 ≤ largest) × (largest ≤ LARGEST)
largest_from largest e =
    let h = or_neither (eqb largest 0) (ltb LARGEST largest) e in
    let some = eqb-false largest 0 h.0 in
    (omega (arith, some), ltb-false LARGEST largest h.1)

pub from_largest : (largest : ℕ) → 1 ≤ largest → largest ≤ LARGEST → bad_largest largest ≡ false
from_largest largest least most =
    neither_or (eqb largest 0) (ltb LARGEST largest) (ne_eqb largest 0 (λ e. omega arith)) (le-ltb LARGEST largest most)

-- ---- a good frame's part has a byte or more and is within the limit, and the frame is good with every limit that its part is within
module _ (limit : ℕ) (f : List ℕ) (good : frame_fault limit f ≡ 0) where
  pub part_within : (1 ≤ length (part_of f)) × (length (part_of f) ≤ limit)
  unfolding frame_fault
  part_within =
      let n = length (part_of f) in
      let h = or_neither (eqb n 0) (ltb limit n) (none_first (frame_rules limit f) tt good).1.1.0 in
      let some = eqb-false n 0 h.0 in
      (omega (arith, some), ltb-false limit n h.1)

  pub good_within : (other : ℕ) → length (part_of f) ≤ other → frame_fault other f ≡ 0
  unfolding frame_fault
  good_within other k =
      let n = length (part_of f) in
      let h = none_first (frame_rules limit f) tt good in
      let some = (or_neither (eqb n 0) (ltb limit n) h.1.1.0).0 in
      first_none (frame_rules other f) (h.0, (h.1.0, (neither_or (eqb n 0) (ltb other n) some (le-ltb other n k), h.1.1.1)))

-- So a frame is good with a limit up to 240 exactly where it is good by its fields alone and its part is within the limit.
pub good_with_limit : (limit : ℕ) (f : List ℕ) → limit ≤ LARGEST
    → (frame_fault limit f ≡ 0 → (frame_fault LARGEST f ≡ 0) × (length (part_of f) ≤ limit))
    × (frame_fault LARGEST f ≡ 0 → length (part_of f) ≤ limit → frame_fault limit f ≡ 0)
good_with_limit limit f most = (
  λ e. let within = (part_within limit f e).1 in (good_within limit f e LARGEST (omega (arith, within)), within),
  λ e within. good_within LARGEST f e limit within,
)
