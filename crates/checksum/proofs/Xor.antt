-- Exclusive or: of the halves, of the lowest digits, and of three in either order.
-- Assumes nothing.
use mathlib.Core.Path.{◌≡◌, refl}
use Prim.Native.Nat.{ℕ, zero, suc, ◌/◌, ◌%◌, ◌<◌}
use native.Mathlib.Omega.{arith}
use lib.Arith.{bin_ind}
use lib.Bits.{bit_xor, xor_shr, xor_mod}

pub xor_half : (a b : ℕ) → bit_xor a b / 2 ≡ bit_xor (a / 2) (b / 2)
xor_half a b = xor_shr a b 1

pub xor_odd : (a b : ℕ) → bit_xor a b % 2 ≡ bit_xor (a % 2) (b % 2)
xor_odd a b = xor_mod a b 1

-- what holds of 0 and of 1 holds of a lowest digit
module _ (P : ℕ → Type 0) (none : P 0) (one : P 1) where
  of_digit : (d : ℕ) → d < 2 → P d
  of_digit zero h = none
  of_digit (suc zero) h = one
  of_digit (suc (suc d)) h = absurd (omega arith)

  pub digit : (n : ℕ) → P (n % 2)
  digit n = of_digit (n % 2) (omega arith)

digits_assoc : (a b c : ℕ) → bit_xor (bit_xor (a % 2) (b % 2)) (c % 2) ≡ bit_xor (a % 2) (bit_xor (b % 2) (c % 2))
digits_assoc a b c =
    digit (λ (p : ℕ). bit_xor (bit_xor p (b % 2)) (c % 2) ≡ bit_xor p (bit_xor (b % 2) (c % 2))) refl
    (digit (λ (q : ℕ). bit_xor (bit_xor 1 q) (c % 2) ≡ bit_xor 1 (bit_xor q (c % 2))) refl
    (digit (λ (r : ℕ). r ≡ bit_xor 1 (bit_xor 1 r)) refl refl c) b) a

by_digits : (m n : ℕ) → m / 2 ≡ n / 2 → m % 2 ≡ n % 2 → m ≡ n
by_digits m n h o = omega arith

pub xor_assoc : (a b c : ℕ) → bit_xor (bit_xor a b) c ≡ bit_xor a (bit_xor b c)
xor_assoc a =
    bin_ind (λ (n : ℕ). (b c : ℕ) → bit_xor (bit_xor n b) c ≡ bit_xor n (bit_xor b c)) (λ b c. refl)
    (λ n ih b c.
    by_digits (bit_xor (bit_xor n b) c) (bit_xor n (bit_xor b c))
    (rw (xor_half (bit_xor n b) c, xor_half n b, xor_half n (bit_xor b c), xor_half b c) (ih (b / 2) (c / 2)))
    (rw (xor_odd (bit_xor n b) c, xor_odd n b, xor_odd n (bit_xor b c), xor_odd b c) (digits_assoc n b c))) a
