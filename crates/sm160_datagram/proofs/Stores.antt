-- The stores of the writer, one after another, are the layout.
-- Assumes nothing.
use mathlib.Core.Path.{◌≡◌, refl, sym, ap, ◌∙◌}
use mathlib.Core.List.{List, ◌++◌, append_assoc}
use Prim.Native.Nat.{ℕ, ◌+◌, ◌≤◌}
use native.Mathlib.Omega.{arith}
use lib.ListN.{length, take, set, replicate, length-append}
use lib.Seq.{sets}
use Rattle.checksum.specs.Crc32.{crc32}
use Rattle.wire.specs.Numbers.{le, digits, over}
use Rattle.wire.proofs.Numbers.{length_le}
use Rattle.wire.proofs.Writing.{sets_over, sets_then, take_sets}
use Rattle.sm160_datagram.specs.Layout.{opening_bytes, covered_bytes, closing_bytes, datagram_bytes}
use Rattle.sm160_datagram.proofs.Bytes.{length_closing, length_covered}

pub stored_opening : (type n : ℕ) (out : List ℕ) → sets (set (set out 0 type) 1 0) 2 (le 4 n) ≡ sets out 0 (opening_bytes type n)
unfolding opening_bytes le digits
stored_opening type n out = refl

-- the twelve bytes that are made apart
pub made_closing : (n : ℕ) (covered : List ℕ) → sets (sets (replicate 12 0) 0 (le 8 n)) 8 (le 4 (crc32 covered)) ≡ closing_bytes n covered
unfolding closing_bytes le digits
made_closing n covered = refl

pub length_opening : (type n : ℕ) → length (opening_bytes type n) ≡ 6
unfolding opening_bytes
length_opening type n = simp length_le

-- what is covered, in three stores
pub stored_covered : (type : ℕ) (o b out : List ℕ)
    → sets (sets (sets out 0 (opening_bytes type (length o))) 6 o) (length o + 6) b ≡ sets out 0 (covered_bytes type o b)
unfolding covered_bytes
stored_covered type o b out =
    let h = opening_bytes type (length o) in
    let n : length (h ++ o) ≡ length o + 6 = length-append h o ∙ omega (arith, length_opening type (length o)) in
    ap (λ (l : List ℕ). sets l (length o + 6) b) (sets_then out h o 6 (length_opening type (length o)))
    ∙ sets_then out (h ++ o) b (length o + 6) n
    ∙ ap (sets out 0) (append_assoc h o b)

-- whatever is covered, of k bytes, and its closing
pub closed : (covered out : List ℕ) (n k : ℕ) → length covered ≡ k → k + 12 ≤ length out
    → sets (sets out 0 covered) k (closing_bytes n (take k (sets out 0 covered))) ≡ over out (covered ++ closing_bytes n covered)
closed covered out n k e room =
    let fits : length covered ≤ length out = omega arith in
    let all : length (covered ++ closing_bytes n covered) ≤ length out =
    omega (arith, length-append covered (closing_bytes n covered), length_closing n covered) in
    ap (λ (l : List ℕ). sets (sets out 0 covered) k (closing_bytes n l)) (ap (λ (j : ℕ). take j (sets out 0 covered)) (sym e) ∙ take_sets out covered fits)
    ∙ sets_then out covered (closing_bytes n covered) k e
    ∙ sets_over out (covered ++ closing_bytes n covered) all

pub stored_datagram : (type : ℕ) (o b out : List ℕ) → length o + length b + 18 ≤ length out
    → sets (sets out 0 (covered_bytes type o b)) (length o + length b + 6) (closing_bytes (length b) (take (length o + length b + 6) (sets out 0 (covered_bytes type o b))))
    ≡ over out (datagram_bytes type o b)
unfolding datagram_bytes
stored_datagram type o b out room =
    closed (covered_bytes type o b) out (length b) (length o + length b + 6) (length_covered type o b) (omega arith)
