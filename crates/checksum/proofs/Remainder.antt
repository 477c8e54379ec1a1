-- Laws of the remainder, with any polynomial: over two stretches in turn, its bound, several bits at once, and a loop's turn and end.
-- Assumes nothing.
use mathlib.Core.Path.{◌≡◌, refl, sym, ap, ap₂, ◌∙◌}
use mathlib.Core.List.{List, [], ◌∷◌, ◌++◌}
use Prim.Native.Nat.{ℕ, zero, suc, ◌+◌, ◌*◌, ◌/◌, ◌%◌, ◌^◌, ◌<◌, ◌≤◌}
use native.Mathlib.Omega.{arith}
use native.Mathlib.Nat.{mul-one, one-mul, zero-mul, mod-lt}
use native.Mathlib.Numerals.{add-one}
use lib.Bits.{bit_xor, xor_lt, xor_shifted, shifted_half, shifted_even}
use lib.ListN.{length, get_or, drop, drop_of_length-le}
use lib.Pow.{pow_pos, split}
use lib.Seq.{drop-cons}
use Rattle.wire.specs.Each.{Bytes}
use Rattle.checksum.specs.Crc.{crc_bit, crc_bits, crc_byte, remainder}
use Rattle.checksum.proofs.Xor.{digit, xor_half, xor_odd, xor_assoc}

module _ (poly : ℕ) where
  -- one stretch after the other
  pub remainder_append : (c : ℕ) (xs ys : List ℕ) → remainder poly c (xs ++ ys) ≡ remainder poly (remainder poly c xs) ys
  unfolding remainder
  remainder_append c [] ys = refl
  remainder_append c (x ∷ xs) ys = remainder_append (crc_byte poly c x) xs ys

  -- ---- it fits as many bits as the polynomial
  module _ (w : ℕ) (fits : poly < 2 ^ w) where
    pub bit_lt : (c : ℕ) → c < 2 ^ w → crc_bit poly c < 2 ^ w
    bit_lt c h =
        let none : 0 * poly < 2 ^ w = rw (zero-mul poly) (pow_pos w) in
        let one : 1 * poly < 2 ^ w = rw (one-mul poly) fits in
        xor_lt w (c / 2) (c % 2 * poly) (omega arith) (digit (λ d. d * poly < 2 ^ w) none one c)

    bits_lt : (n c : ℕ) → c < 2 ^ w → crc_bits poly n c < 2 ^ w
    unfolding crc_bits
    bits_lt zero c h = h
    bits_lt (suc n) c h = bits_lt n (crc_bit poly c) (bit_lt c h)

    pub remainder_lt : (c : ℕ) (bs : List ℕ) → 256 ≤ 2 ^ w → c < 2 ^ w → Bytes bs → remainder poly c bs < 2 ^ w
    unfolding remainder
    remainder_lt c [] wide h hb = h
    remainder_lt c (b ∷ bs) wide h hb =
        remainder_lt (crc_byte poly c b) bs wide (bits_lt 8 (bit_xor c b) (xor_lt w c b h (omega (arith, hb.0)))) hb.1

  -- ---- n bits at once
  -- one bit: what stands above comes down by one
  bit_above : (n h x : ℕ) → crc_bit poly (bit_xor (h * 2 ^ suc n) x) ≡ bit_xor (h * 2 ^ n) (crc_bit poly x)
  bit_above n h x =
      ap₂ (λ (u v : ℕ). bit_xor u (v * poly))
      (xor_half (h * 2 ^ suc n) x ∙ ap (λ (k : ℕ). bit_xor k (x / 2)) (shifted_half h n))
      (xor_odd (h * 2 ^ suc n) x ∙ ap (λ (k : ℕ). bit_xor k (x % 2)) (shifted_even h n))
      ∙ xor_assoc (h * 2 ^ n) (x / 2) (x % 2 * poly)

  bits_above : (n h x : ℕ) → crc_bits poly n (bit_xor (h * 2 ^ n) x) ≡ bit_xor h (crc_bits poly n x)
  unfolding crc_bits
  bits_above zero h x = ap (λ (k : ℕ). bit_xor k x) (mul-one h)
  bits_above (suc n) h x = ap (crc_bits poly n) (bit_above n h x) ∙ bits_above n h (crc_bit poly x)

  -- n bits of any remainder: those of its n lowest, and the others moved down
  pub bits_at_once : (n c : ℕ) → crc_bits poly n c ≡ bit_xor (c / 2 ^ n) (crc_bits poly n (c % 2 ^ n))
  bits_at_once n c =
      ap (crc_bits poly n) (sym (split c n) ∙ sym (xor_shifted (c / 2 ^ n) n (c % 2 ^ n) (mod-lt c (pow_pos n))))
      ∙ bits_above n (c / 2 ^ n) (c % 2 ^ n)

  -- ---- a loop over the bytes: a turn takes one of those that are left, and its end leaves none
  pub turn : (bs : List ℕ) (i c : ℕ) → i < length bs → remainder poly c (drop i bs) ≡ remainder poly (crc_byte poly c (get_or bs i 0)) (drop (i + 1) bs)
  unfolding remainder
  turn bs i c h = rw (add-one, drop-cons bs i 0)

  pub last : (bs : List ℕ) (i c : ℕ) → length bs ≤ i → remainder poly c (drop i bs) ≡ c
  unfolding remainder
  last bs i c h = rw (drop_of_length-le bs h)
