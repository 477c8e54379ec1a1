-- A flag among flags, as the code asks for it.
-- Assumes nothing.
use mathlib.Core.Path.{◌≡◌, refl, sym, ap, ◌∙◌, subst}
use mathlib.Core.Bool.{Bool, true, false, not, ◌||◌}
use Prim.Native.Nat.{ℕ, zero, suc, ◌*◌, ◌^◌, ◌<◌}
use native.Mathlib.Omega.{arith}
use borrow.Author.Tests.{eqb-true, eq-eqb, ne_eqb}
use lib.Dec.{eqb}
use Rattle.std.specs.Int.{bit_at}
use Rattle.std.specs.Int.Bits.{bit_and}
use Rattle.std.proofs.lemmas.Nat.{pow_pos}
use Rattle.std.proofs.lemmas.Nat.Bits.{and_pow, bit_at-lt}
use Rattle.sm160_frame.specs.Layout.{is_flag, has}

-- the bit k
at_bit : (flags k : ℕ) → not (eqb (bit_and flags (2 ^ k)) 0) ≡ eqb (bit_at flags k) 1
at_bit flags k = go (bit_at flags k) refl (bit_at-lt flags k)
  where
    go : (b : ℕ) → bit_at flags k ≡ b → b < 2 → not (eqb (bit_and flags (2 ^ k)) 0) ≡ eqb b 1
    go zero e h = ap not (eq-eqb (bit_and flags (2 ^ k)) 0 (and_pow flags k ∙ ap (λ (n : ℕ). n * 2 ^ k) e ∙ omega arith))
    go (suc zero) e h =
        let some = pow_pos k in
        let one : bit_and flags (2 ^ k) ≡ 1 * 2 ^ k = and_pow flags k ∙ ap (λ (n : ℕ). n * 2 ^ k) e in
        ap not (ne_eqb (bit_and flags (2 ^ k)) 0 (λ z. omega arith))
    go (suc (suc b)) e h = absurd (omega arith)

pub has_tested : (flag flags : ℕ) → is_flag flag ≡ true → not (eqb (bit_and flags flag) 0) ≡ has flag flags
has_tested flag flags h = go (eqb flag 1) refl (eqb flag 2) refl (eqb flag 4) refl h
  where
    same : (k : ℕ) → 2 ^ k ≡ flag → not (eqb (bit_and flags flag) 0) ≡ has flag flags
    same k e = subst (λ (n : ℕ). not (eqb (bit_and flags n) 0) ≡ has n flags) e (at_bit flags k)

    go : (a : Bool) → eqb flag 1 ≡ a → (b : Bool) → eqb flag 2 ≡ b → (c : Bool) → eqb flag 4 ≡ c → ((a || b) || c) ≡ true → not (eqb (bit_and flags flag) 0) ≡ has flag flags
    go true ea b eb c ec t = same 0 (sym (eqb-true flag 1 ea))
    go false ea true eb c ec t = same 1 (sym (eqb-true flag 2 eb))
    go false ea false eb true ec t = same 2 (sym (eqb-true flag 4 ec))
    go false ea false eb false ec t = absurd (cc)
