-- The stores of the writer, one after another, are the layout.
-- Assumes nothing.
use mathlib.Core.Path.{◌≡◌, sym, ap, ◌∙◌}
use mathlib.Core.List.{List, [], ◌∷◌, ◌++◌, append_assoc}
use Prim.Native.Nat.{ℕ, ◌+◌, ◌≤◌}
use native.Mathlib.Omega.{arith}
use lib.ListN.{length, set, take, length-append}
use lib.Seq.{sets}
use Rattle.checksum.specs.Crc.{crc}
use Rattle.wire.specs.Numbers.{bcd, le, over}
use Rattle.wire.proofs.Numbers.{length_bcd, length_le}
use Rattle.wire.proofs.Writing.{sets_then, sets_over, take_sets}
use Rattle.pulsar_frame.specs.Layout.{frame_body, frame_bytes}

module _ (a f id : ℕ) (p : List ℕ) where
  pub length_body : length (frame_body a f id p) ≡ length p + 8
  unfolding frame_body
  length_body = simp (length-append, length_bcd, length_le) (omega arith)

  pub length_frame : length (frame_bytes a f id p) ≡ length p + 10
  unfolding frame_bytes
  length_frame = simp (length-append, length_le, length_body) (omega arith)

  pub stored_body : (out : List ℕ)
      → sets (sets (set (set (sets out 0 (bcd 4 a)) 4 f) 5 (length p + 10)) 6 p) (length p + 6) (le 2 id) ≡ sets out 0 (frame_body a f id p)
  unfolding frame_body
  stored_body out =
      let head : List ℕ = f ∷ (length p + 10) ∷ [] in
      let six : length (bcd 4 a ++ head) ≡ 6 = simp (length-append, length_bcd) (omega arith) in
      let regroup : bcd 4 a ++ head ++ p ++ le 2 id ≡ bcd 4 a ++ (head ++ (p ++ le 2 id)) = simp append_assoc in
      let all : length (bcd 4 a ++ head ++ p) ≡ length p + 6 = simp (length-append, length_bcd) (omega arith) in
      ap (λ (l : List ℕ). sets (sets l 6 p) (length p + 6) (le 2 id)) (sets_then out (bcd 4 a) head 4 (length_bcd 4 a))
      ∙ ap (λ (l : List ℕ). sets l (length p + 6) (le 2 id)) (sets_then out (bcd 4 a ++ head) p 6 six)
      ∙ sets_then out (bcd 4 a ++ head ++ p) (le 2 id) (length p + 6) all
      ∙ ap (sets out 0) regroup

  pub covered : (out : List ℕ) → length p + 10 ≤ length out → take (length p + 8) (sets out 0 (frame_body a f id p)) ≡ frame_body a f id p
  covered out h =
      let fits : length (frame_body a f id p) ≤ length out = omega (arith, length_body) in
      ap (λ (k : ℕ). take k (sets out 0 (frame_body a f id p))) (sym length_body) ∙ take_sets out (frame_body a f id p) fits

  pub stored_frame : (out : List ℕ)
      → sets (sets out 0 (frame_body a f id p)) (length p + 8) (le 2 (crc (frame_body a f id p))) ≡ sets out 0 (frame_bytes a f id p)
  unfolding frame_bytes
  stored_frame out = sets_then out (frame_body a f id p) (le 2 (crc (frame_body a f id p))) (length p + 8) length_body

  pub over_frame_lem : (out out' : List ℕ) → length p + 10 ≤ length out → out' ≡ sets out 0 (frame_bytes a f id p) → out' ≡ over out (frame_bytes a f id p)
  over_frame_lem out out' h e = e ∙ sets_over out (frame_bytes a f id p) (omega (arith, length_frame))
