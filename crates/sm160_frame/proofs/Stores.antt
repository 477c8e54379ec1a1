-- The stores of the writer, one after another, are the layout; the CRC16 in the stretches that the code sums.
-- Assumes nothing.
use mathlib.Core.Path.{◌≡◌, refl, sym, ap, ◌∙◌}
use mathlib.Core.List.{List, [], ◌∷◌}
use Prim.Native.Nat.{ℕ, ◌+◌, ◌≤◌}
use native.Mathlib.Omega.{arith}
use mathlib.Core.Bool.{false}
use borrow.Author.Tests.{ltb-false}
use lib.Dec.{ltb, eqb}
use lib.ListN.{length, take, drop, length-append}
use lib.Seq.{sets}
use Rattle.checksum.specs.Crc.{crc_from}
use Rattle.checksum.proofs.Laws.{crc_from_append}
use Rattle.wire.specs.Numbers.{le, digits, over}
use Rattle.wire.proofs.Numbers.{length_le}
use Rattle.wire.proofs.Writing.{sets_over, take_sets}
use Rattle.wire.proofs.Bools.{or_neither}
use Rattle.sm160_frame.specs.Layout.{crc_due, frame_with, frame_bytes}
use Rattle.sm160_frame.specs.Reading.{bad_part}

-- up to CRC16, two zeros, the rest
pub crc_in_stretches : (s : List ℕ) → crc_due s ≡ crc_from (crc_from (crc_from 0 (take 8 s)) (0 ∷ 0 ∷ [])) (drop 10 s)
unfolding crc_due
crc_in_stretches s = crc_from_append 0 (take 8 s) (0 ∷ 0 ∷ drop 10 s) ∙ crc_from_append (crc_from 0 (take 8 s)) (0 ∷ 0 ∷ []) (drop 10 s)

module _ (session offset flags : ℕ) (p : List ℕ) where
  pub length_with : (crc : ℕ) → length (frame_with crc session offset flags p) ≡ length p + 12
  unfolding frame_with
  length_with crc = simp (length-append, length_le) (omega arith)

  pub length_frame : length (frame_bytes session offset flags p) ≡ length p + 12
  unfolding frame_bytes
  length_frame = length_with (crc_due (frame_with 0 session offset flags p))

  pub stored_fields : (out : List ℕ)
      → sets (sets (sets (sets (sets (sets out 0 (le 2 session)) 2 (le 4 offset)) 6 (le 2 (length p))) 8 (le 2 0)) 10 (le 2 flags)) 12 p
      ≡ sets out 0 (frame_with 0 session offset flags p)
  unfolding frame_with le digits
  stored_fields out = refl

  -- what the CRC16 is summed over
  pub covered : (out : List ℕ) → length p + 12 ≤ length out → take (length p + 12) (sets out 0 (frame_with 0 session offset flags p)) ≡ frame_with 0 session offset flags p
  covered out h =
      let bs = frame_with 0 session offset flags p in
      let fits : length bs ≤ length out = omega (arith, length_with 0) in
      ap (λ (k : ℕ). take k (sets out 0 bs)) (sym (length_with 0)) ∙ take_sets out bs fits

  crc_stored : (crc : ℕ) (out : List ℕ) → sets (over out (frame_with 0 session offset flags p)) 8 (le 2 crc) ≡ over out (frame_with crc session offset flags p)
  unfolding frame_with le digits over
  crc_stored crc out = refl

  pub stored_frame : (out : List ℕ) → length p + 12 ≤ length out
      → sets (sets out 0 (frame_with 0 session offset flags p)) 8 (le 2 (crc_due (frame_with 0 session offset flags p))) ≡ over out (frame_bytes session offset flags p)
  unfolding frame_bytes
  stored_frame out h =
      let bs = frame_with 0 session offset flags p in
      let fits : length bs ≤ length out = omega (arith, length_with 0) in
      ap (λ (l : List ℕ). sets l 8 (le 2 (crc_due bs))) (sets_over out bs fits) ∙ crc_stored (crc_due bs) out

pub small_part : (limit : ℕ) (p : List ℕ) → bad_part limit p ≡ false → length p ≤ limit
small_part limit p e = ltb-false limit (length p) (or_neither (eqb (length p) 0) (ltb limit (length p)) e).1
