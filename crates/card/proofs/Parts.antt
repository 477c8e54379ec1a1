-- What the upper half of a card's value bits says of the reading.
-- Assumes nothing.
use mathlib.Core.Path.{◌≡◌, refl, ap}
use mathlib.Core.Bool.{true, false, not, ◌&&◌}
use Prim.Native.Nat.{ℕ, ◌/◌, ◌%◌, ◌^◌, ◌<◌}
use native.Mathlib.Omega.{arith}
use lib.Dec.{eqb}
use borrow.Author.Tests.{eqb-true, eq-eqb, not-false}
use Rattle.reading.specs.Reading.{reading_of, bits_of, kind_of, FitsKind}
use Rattle.reading.specs.declared.Kind.{Kind}
use Rattle.reading.specs.declared.Kind.TheVariants as K
use Rattle.reading.specs.declared.Reading.{Reading}
use Rattle.reading.specs.declared.Reading.TheVariants.{F32, F64, U32, U64}
use Rattle.card.specs.Reading.{upper_half_set}

low_half : (n : ℕ) → (true && not (eqb (n / 2 ^ 32) 0)) ≡ false → n % 2 ^ 32 ≡ n
low_half n e =
    let z : n / 2 ^ 32 ≡ 0 = eqb-true (n / 2 ^ 32) 0 (not-false (eqb (n / 2 ^ 32) 0) e) in
    omega arith

pub bits_of_made : (k : Kind) (n : ℕ) → upper_half_set k n ≡ false → bits_of (reading_of k n) ≡ n
bits_of_made K.F32 n e = low_half n e
bits_of_made K.F64 n e = refl
bits_of_made K.U32 n e = low_half n e
bits_of_made K.U64 n e = refl

pub made_fits : (k : Kind) (n : ℕ) → n < 2 ^ 64 → FitsKind (reading_of k n)
made_fits K.F32 n h = omega arith
made_fits K.F64 n h = omega arith
made_fits K.U32 n h = omega arith
made_fits K.U64 n h = omega arith

no_upper : (n : ℕ) → n < 256 ^ 4 → (true && not (eqb (n / 2 ^ 32) 0)) ≡ false
no_upper n h =
    let z : n / 2 ^ 32 ≡ 0 = omega arith in
    ap not (eq-eqb (n / 2 ^ 32) 0 z)

pub fits_no_upper : (r : Reading) → FitsKind r → upper_half_set (kind_of r) (bits_of r) ≡ false
fits_no_upper (F32 n) h = no_upper n h
fits_no_upper (F64 n) h = refl
fits_no_upper (U32 n) h = no_upper n h
fits_no_upper (U64 n) h = refl
