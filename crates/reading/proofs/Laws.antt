-- Kind and bits are all that a reading is; and it is absent just where each of its bytes is FF, once over the width.
-- Assumes nothing.
use mathlib.Core.Path.{◌≡◌, refl, sym, ap, ap₂, ◌∙◌, subst}
use mathlib.Core.Bool.{Bool, true, false, ◌&&◌}
use mathlib.Core.List.{List, [], ◌∷◌}
use Prim.Native.Nat.{ℕ, zero, suc, ◌+◌, ◌-◌, ◌*◌, ◌^◌, ◌<◌, ◌≤◌}
use native.Mathlib.Nat.{pow-suc, mod-eq_of_lt}
use native.Mathlib.Omega.{arith}
use lib.Dec.{eqb, lit<}
use lib.ListN.{length}
use borrow.Author.Tests.{eq-eqb, ne_eqb, eqb-true, eqb-false}
use Rattle.wire.specs.Each.{Bytes}
use Rattle.wire.specs.Numbers.{of_le, number}
use Rattle.wire.proofs.Bools.{and_both}
use Rattle.wire.proofs.Numbers.{number_lt}
use Rattle.reading.specs.Reading.{width_of, number_of, kind_from, reading_of, bits_of, kind_of, is_absent, same, FitsKind}
use Rattle.reading.specs.Values.{all_ff}
use Rattle.reading.specs.declared.Kind.{Kind}
use Rattle.reading.specs.declared.Kind.TheVariants as K
use Rattle.reading.specs.declared.Reading.{Reading}
use Rattle.reading.specs.declared.Reading.TheVariants.{F32, F64, U32, U64}

-- a kind's number, read again
pub kind_reads_back : (k : Kind) → kind_from (number_of k) ≡ k
kind_reads_back K.F32 = refl
kind_reads_back K.F64 = refl
kind_reads_back K.U32 = refl
kind_reads_back K.U64 = refl

-- a kind's number and its kind
pub kind_number : (n : ℕ) → n < 4 → number_of (kind_from n) ≡ n
kind_number zero h = refl
kind_number (suc zero) h = refl
kind_number (suc (suc zero)) h = refl
kind_number (suc (suc (suc zero))) h = refl
kind_number (suc (suc (suc (suc n)))) h = absurd (omega arith)

pub number_below : (k : Kind) → number_of k < 4
number_below K.F32 = omega arith
number_below K.F64 = omega arith
number_below K.U32 = omega arith
number_below K.U64 = omega arith

-- a reading from its kind and bits
pub kind_of_made : (k : Kind) (n : ℕ) → kind_of (reading_of k n) ≡ k
kind_of_made K.F32 n = refl
kind_of_made K.F64 n = refl
kind_of_made K.U32 n = refl
kind_of_made K.U64 n = refl

bits_of_made : (k : Kind) (n : ℕ) → n < 256 ^ width_of k → bits_of (reading_of k n) ≡ n
bits_of_made K.F32 n h = mod-eq_of_lt h
bits_of_made K.F64 n h = refl
bits_of_made K.U32 n h = mod-eq_of_lt h
bits_of_made K.U64 n h = refl

pub made_again : (r : Reading) → FitsKind r → reading_of (kind_of r) (bits_of r) ≡ r
made_again (F32 n) h = ap F32 (mod-eq_of_lt h)
made_again (F64 n) h = refl
made_again (U32 n) h = ap U32 (mod-eq_of_lt h)
made_again (U64 n) h = refl

pub fits_64 : (r : Reading) → FitsKind r → bits_of r < 2 ^ 64
fits_64 (F32 n) h = omega arith
fits_64 (F64 n) h = h
fits_64 (U32 n) h = omega arith
fits_64 (U64 n) h = h

-- ---- sameness

made : ℕ → ℕ → Reading
made n bits = go (kind_from n)
  where
    go : Kind → Reading
    go K.F32 = F32 bits
    go K.F64 = F64 bits
    go K.U32 = U32 bits
    go K.U64 = U64 bits

whole : (r : Reading) → made (number_of (kind_of r)) (bits_of r) ≡ r
unfolding made
whole (F32 n) = refl
whole (F64 n) = refl
whole (U32 n) = refl
whole (U64 n) = refl

-- readings are the same when kind and bits are
pub same_by_bits : (a b : Reading) → kind_of a ≡ kind_of b → bits_of a ≡ bits_of b → same a b ≡ true
same_by_bits a b k e =
    ap₂ (λ (x y : Bool). x && y) (eq-eqb (number_of (kind_of a)) (number_of (kind_of b)) (ap number_of k)) (eq-eqb (bits_of a) (bits_of b) e)

-- and just then they are one: a NaN is the same as itself, and +0 is not -0
pub same_is_one : (a b : Reading) → (same a b ≡ true → a ≡ b) × (a ≡ b → same a b ≡ true)
same_is_one a b = (one, λ e. same_by_bits a b (ap kind_of e) (ap bits_of e))
  where
    one : same a b ≡ true → a ≡ b
    one e =
        let t = and_both (eqb (number_of (kind_of a)) (number_of (kind_of b))) (eqb (bits_of a) (bits_of b)) e in
        sym (whole a) ∙ ap₂ made (eqb-true (number_of (kind_of a)) (number_of (kind_of b)) t.0) (eqb-true (bits_of a) (bits_of b) t.1) ∙ whole b

-- ---- absence

-- all ones one byte longer
longer : (p : ℕ) → 1 ≤ p → p * 256 - 1 ≡ 255 + 256 * (p - 1)
longer p h = omega arith

ones : (b n p : ℕ) → b < 256 → n < p → eqb (b + 256 * n) (p * 256 - 1) ≡ (eqb b 255 && eqb n (p - 1))
ones b n p hb hn = go (eqb b 255) refl (eqb n (p - 1)) refl
  where
    go : (x : Bool) → eqb b 255 ≡ x → (y : Bool) → eqb n (p - 1) ≡ y → eqb (b + 256 * n) (p * 256 - 1) ≡ (eqb b 255 && eqb n (p - 1))
    go true ex true ey =
        let e = eqb-true b 255 ex in
        let f = eqb-true n (p - 1) ey in
        rw (ex, ey) (eq-eqb (b + 256 * n) (p * 256 - 1) (omega arith))
    go true ex false ey =
        let e = eqb-true b 255 ex in
        let f = eqb-false n (p - 1) ey in
        rw (ex, ey) (ne_eqb (b + 256 * n) (p * 256 - 1) (λ g. f (omega arith)))
    go false ex y ey =
        let e = eqb-false b 255 ex in
        rw ex (ne_eqb (b + 256 * n) (p * 256 - 1) (λ g. e (omega arith)))

-- the number of bytes is all ones just where each byte is FF
pub absent_bytes : (bs : List ℕ) → Bytes bs → eqb (of_le bs) (256 ^ length bs - 1) ≡ all_ff bs
unfolding of_le number all_ff
absent_bytes [] h = refl
absent_bytes (b ∷ bs) h =
    ap (λ (p : ℕ). eqb (b + 256 * number 256 bs) (p - 1)) (pow-suc 256 (length bs))
    ∙ ones b (number 256 bs) (256 ^ length bs) h.0 (number_lt 256 (lit< tt) bs h.1)
    ∙ ap (λ (t : Bool). eqb b 255 && t) (absent_bytes bs h.1)

-- a reading of a kind's bytes is absent just where each is FF
pub absent_is_all_FF : (k : Kind) (bs : List ℕ) → Bytes bs → length bs ≡ width_of k → is_absent (reading_of k (of_le bs)) ≡ all_ff bs
unfolding of_le
absent_is_all_FF k bs h e =
    let fits : of_le bs < 256 ^ width_of k = subst (λ (n : ℕ). of_le bs < 256 ^ n) e (number_lt 256 (lit< tt) bs h) in
    ap₂ (λ (x : ℕ) (y : Kind). eqb x (256 ^ width_of y - 1)) (bits_of_made k (of_le bs) fits) (kind_of_made k (of_le bs))
    ∙ ap (λ (n : ℕ). eqb (of_le bs) (256 ^ n - 1)) (sym e)
    ∙ absent_bytes bs h
