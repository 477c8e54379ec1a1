-- The bytes that the library's `to_le_bytes` and `to_be_bytes` give are a number's digits, over any width.
-- Assumes nothing.
use mathlib.Core.Path.{◌≡◌, refl, sym, ap, ap₂, ◌∙◌}
use mathlib.Core.List.{List, [], ◌∷◌, ◌++◌, reverse}
use Prim.Native.Nat.{ℕ, zero, suc, ◌+◌, ◌/◌, ◌%◌, ◌^◌}
use native.Mathlib.Nat.{add-zero, add-suc, suc-add, zero-add, pow-suc, div-div-eq-div-mul, div-one}
use Rattle.std.proofs.lemmas.List.{reverse-append}
use Rattle.std.specs.Int.{byte_at, bytes_low_first, bytes_high_first}
use Rattle.wire.specs.Numbers.{digits, le, be}

byte_is : (i n : ℕ) → byte_at i n ≡ n / 256 ^ i % 256
byte_is zero n = ap (λ (x : ℕ). x % 256) (sym (div-one n))
byte_is (suc i) n = refl

pub low_first : (k i n : ℕ) → bytes_low_first i k n ≡ digits 256 k (n / 256 ^ i)
unfolding digits
low_first zero i n = refl
low_first (suc k) i n =
    ap₂ (λ (b : ℕ) (bs : List ℕ). b ∷ bs) (byte_is i n)
    (low_first k (suc i) n ∙ ap (digits 256 k) (ap (λ (m : ℕ). n / m) (pow-suc 256 i) ∙ sym (div-div-eq-div-mul n (256 ^ i) 256)))

pub le_bytes : (w n : ℕ) → bytes_low_first 0 w n ≡ le w n
unfolding le
le_bytes w n = low_first w 0 n ∙ ap (digits 256 w) (div-one n)

-- the last of k + 1 bytes by itself
last_low : (k i n : ℕ) → bytes_low_first i (suc k) n ≡ bytes_low_first i k n ++ (byte_at (i + k) n ∷ [])
last_low zero i n = ap (λ (j : ℕ). byte_at j n ∷ []) (sym (add-zero i))
last_low (suc k) i n =
    ap (λ (bs : List ℕ). byte_at i n ∷ bs)
    (last_low k (suc i) n ∙ ap (λ (j : ℕ). bytes_low_first (suc i) k n ++ (byte_at j n ∷ [])) (suc-add i k ∙ sym (add-suc i k)))

-- most significant first: the other way round
high_first : (w n : ℕ) → bytes_high_first w n ≡ reverse (bytes_low_first 0 w n)
high_first zero n = refl
high_first (suc k) n =
    ap₂ (λ (j : ℕ) (bs : List ℕ). byte_at j n ∷ bs) (sym (zero-add k)) (high_first k n)
    ∙ sym (ap reverse (last_low k 0 n) ∙ reverse-append (bytes_low_first 0 k n) (byte_at (0 + k) n ∷ []))

pub be_bytes : (w n : ℕ) → bytes_high_first w n ≡ be w n
unfolding be
be_bytes w n = high_first w n ∙ ap reverse (low_first w 0 n ∙ ap (digits 256 w) (div-one n))
