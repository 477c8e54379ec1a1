-- A field of bits that is cut in two is the sum of its parts; and a number with bits put after it, of which 64 are kept.
-- Assumes nothing.
use mathlib.Core.Path.{◌≡◌, sym, ap, ap₂, ◌∙◌, subst}
use mathlib.Core.List.{List}
use Prim.Native.Nat.{ℕ, ◌+◌, ◌-◌, ◌*◌, ◌/◌, ◌%◌, ◌^◌, ◌≤◌, ◌<◌}
use native.Mathlib.Nat.{add-zero, add_assoc, add-mul, mul_assoc, mul_comm, one-mul, mod-lt, mod-eq_of_lt, lt_of_lt_of_le, mod-add-mod, mul-mod_left, mul-add-mod_self_right, div-add-mod'}
use native.Mathlib.Omega.{arith}
use lib.Arith.{digits_lt}
use lib.Pow.{pow-add, pow_pos, pow_mono, shl_exact, shl-shr, mod-pow-add, high, low}
use Rattle.wire.specs.Numbers.{field}
use Rattle.wire.specs.Each.{Each}
use Rattle.wire.proofs.Fields.{length_field, field_append}
use Rattle.bits.specs.Bits.{Bit, of_bits}
use Rattle.bits.proofs.Bits.{of_bits_append, field_lt}

pub field_join : (bs : List ℕ) (at a b : ℕ) → of_bits (field bs at (a + b)) ≡ of_bits (field bs at a) * 2 ^ b + of_bits (field bs (at + a) b)
field_join bs at a b = ap of_bits (field_append bs at a b) ∙ of_bits_append (field bs at a) (field bs (at + a) b) b (length_field bs (at + a) b)

-- its first part, and its last
module _ (bs : List ℕ) (h : Each Bit bs) (at a b : ℕ) where
  pub first_part : of_bits (field bs at (a + b)) / 2 ^ b ≡ of_bits (field bs at a)
  first_part = ap (λ (n : ℕ). n / 2 ^ b) (field_join bs at a b) ∙ high (of_bits (field bs at a)) b (field_lt bs (at + a) b h)

  pub last_part : of_bits (field bs at (a + b)) % 2 ^ b ≡ of_bits (field bs (at + a) b)
  last_part = ap (λ (n : ℕ). n % 2 ^ b) (field_join bs at a b) ∙ low (of_bits (field bs at a)) b (field_lt bs (at + a) b h)

-- ---- v with the n lowest bits of x after it
module _ (v n x : ℕ) where
  module _ (few : n ≤ 64) where
    back : 64 - n + n ≡ 64
    back = omega arith

    shifted : v * 2 ^ n % 2 ^ 64 ≡ v % 2 ^ (64 - n) * 2 ^ n
    shifted =
        ap (λ (k : ℕ). v * 2 ^ n % 2 ^ k) (sym back)
        ∙ mod-pow-add (v * 2 ^ n) (64 - n) n
        ∙ ap₂ (λ (p q : ℕ). p % 2 ^ (64 - n) * 2 ^ n + q) (shl-shr v n) (mul-mod_left v (2 ^ n))
        ∙ add-zero (v % 2 ^ (64 - n) * 2 ^ n)

    pub with_fits : v * 2 ^ n % 2 ^ 64 + x % 2 ^ n < 2 ^ 64
    with_fits =
        subst (λ (m : ℕ). m + x % 2 ^ n < 2 ^ 64) (sym shifted)
        (subst (λ (m : ℕ). v % 2 ^ (64 - n) * 2 ^ n + x % 2 ^ n < m) (sym (pow-add 2 (64 - n) n) ∙ ap (λ (k : ℕ). 2 ^ k) back)
        (digits_lt (mod-lt v (pow_pos (64 - n))) (mod-lt x (pow_pos n))))

    pub with_few : v * 2 ^ n % 2 ^ 64 + x % 2 ^ n ≡ (v * 2 ^ n + x % 2 ^ n) % 2 ^ 64
    with_few = sym (mod-eq_of_lt with_fits) ∙ mod-add-mod (v * 2 ^ n) (2 ^ 64) (x % 2 ^ n)

  pub with_many : 64 ≤ n → x < 2 ^ 64 → x ≡ (v * 2 ^ n + x % 2 ^ n) % 2 ^ 64
  with_many many h =
      let e : n ≡ n - 64 + 64 = omega arith in
      let up : v * 2 ^ n ≡ v * 2 ^ (n - 64) * 2 ^ 64 = ap (λ (k : ℕ). v * 2 ^ k) e ∙ ap (λ (m : ℕ). v * m) (pow-add 2 (n - 64) 64) ∙ sym (mul_assoc v (2 ^ (n - 64)) (2 ^ 64)) in
      sym (ap₂ (λ (p q : ℕ). (p + q) % 2 ^ 64) up (mod-eq_of_lt (lt_of_lt_of_le h (pow_mono many))) ∙ low (v * 2 ^ (n - 64)) 64 h)

-- 1 shifted by n
pub one_shifted : (n : ℕ) → n < 64 → 1 * 2 ^ n % 2 ^ 64 ≡ 2 ^ n
one_shifted n h =
    let one : 1 < 2 ^ 1 = omega arith in
    let few : 1 + n ≤ 64 = omega arith in
    shl_exact 1 n 64 one few ∙ one-mul (2 ^ n)

-- what is kept decides what is kept after it
pub times_mod : (n k y m : ℕ) → (n % m * k + y) % m ≡ (n * k + y) % m
times_mod n k y m =
    let q = n / m in
    let r = n % m in
    let cut : n * k + y ≡ q * k * m + (r * k + y) =
    ap (λ (t : ℕ). t * k + y) (sym (div-add-mod' n m))
    ∙ ap (λ (t : ℕ). t + y) (add-mul (q * m) r k)
    ∙ add_assoc (q * m * k) (r * k) y
    ∙ ap (λ (t : ℕ). t + (r * k + y)) (mul_assoc q m k ∙ ap (λ (t : ℕ). q * t) (mul_comm m k) ∙ sym (mul_assoc q k m)) in
    sym (ap (λ (t : ℕ). t % m) cut ∙ mul-add-mod_self_right (q * k) m (r * k + y))
