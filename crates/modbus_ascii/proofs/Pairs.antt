-- Two characters a byte: lengths, there and back, the byte at a place, and what the loops take in a turn.
-- Assumes nothing.
use mathlib.Core.Path.{◌≡◌, refl, sym, ap, ap₂, ◌∙◌}
use mathlib.Core.Bool.{true, ◌&&◌}
use mathlib.Core.List.{List, [], ◌∷◌, ◌++◌}
use Prim.Native.Nat.{ℕ, zero, suc, ◌+◌, ◌*◌, ◌/◌, ◌%◌, ◌<◌}
use native.Mathlib.Omega.{arith}
use lib.ListN.{length, get_or}
use borrow.Author.Tests.{ltb-true, lt-ltb}
use Rattle.wire.specs.Each.{Bytes}
use Rattle.wire.specs.Digits.{digit, digit_of, is_digit}
use Rattle.wire.proofs.Bools.{and_both}
use Rattle.wire.proofs.Digits.{digit_of_digit, digit_digit_of}
use Rattle.modbus_ascii.specs.Hex.{hex, byte_of, of_hex, all_digits}

pub length_hex : (bs : List ℕ) → length (hex bs) ≡ 2 * length bs
unfolding hex
length_hex [] = refl
length_hex (b ∷ bs) = omega (arith, length_hex bs)

pub hex_append : (xs ys : List ℕ) → hex (xs ++ ys) ≡ hex xs ++ hex ys
unfolding hex
hex_append [] ys = refl
hex_append (x ∷ xs) ys = ap (λ (l : List ℕ). digit (x / 16) ∷ digit (x % 16) ∷ l) (hex_append xs ys)

pub length_of_hex : (cs : List ℕ) → length (of_hex cs) ≡ length cs / 2
unfolding of_hex
length_of_hex [] = refl
length_of_hex (c ∷ []) = refl
length_of_hex (h ∷ l ∷ cs) = omega (arith, length_of_hex cs)

pub of_hex_bytes : (cs : List ℕ) → Bytes (of_hex cs)
unfolding of_hex
of_hex_bytes [] = tt
of_hex_bytes (c ∷ []) = tt
of_hex_bytes (h ∷ l ∷ cs) = (omega arith, of_hex_bytes cs)

-- the byte at a place
pub get_d_of_hex : (cs : List ℕ) (k : ℕ) → k < length cs / 2 → get_or (of_hex cs) k 0 ≡ byte_of (get_or cs (k * 2) 0) (get_or cs (k * 2 + 1) 0)
unfolding of_hex
get_d_of_hex [] k h = absurd (omega arith)
get_d_of_hex (c ∷ []) k h = absurd (omega arith)
get_d_of_hex (x ∷ y ∷ cs) zero h = refl
get_d_of_hex (x ∷ y ∷ cs) (suc k) h =
    let one : suc k * 2 ≡ suc (suc (k * 2)) = omega arith in
    let two : suc k * 2 + 1 ≡ suc (suc (k * 2 + 1)) = omega arith in
    get_d_of_hex cs k (omega arith)
    ∙ sym (ap₂ (λ (i j : ℕ). byte_of (get_or (x ∷ y ∷ cs) i 0) (get_or (x ∷ y ∷ cs) j 0)) one two)

pub same_digits : (xs ys : List ℕ) → xs ≡ ys → all_digits ys ≡ true → all_digits xs ≡ true
same_digits xs ys e h = ap all_digits e ∙ h

-- ---- there and back
pub byte_there : (b : ℕ) → b < 256 → byte_of (digit (b / 16)) (digit (b % 16)) ≡ b
byte_there b h =
    ap₂ (λ (x y : ℕ). (x * 16 + y) % 256) (digit_of_digit (b / 16) (omega arith)) (digit_of_digit (b % 16) (omega arith))
    ∙ omega arith

pub of_hex_hex : (bs : List ℕ) → Bytes bs → of_hex (hex bs) ≡ bs
unfolding hex of_hex
of_hex_hex [] h = refl
of_hex_hex (b ∷ bs) h = ap₂ (λ (x : ℕ) (xs : List ℕ). x ∷ xs) (byte_there b h.0) (of_hex_hex bs h.1)

pub is_digit_lem : (d : ℕ) → d < 16 → is_digit (digit d) ≡ true
is_digit_lem d h = lt-ltb (digit_of (digit d)) 16 (omega (arith, digit_of_digit d h))

pub all_digits_hex : (bs : List ℕ) → Bytes bs → all_digits (hex bs) ≡ true
unfolding hex
all_digits_hex [] h = refl
all_digits_hex (b ∷ bs) h = rw (is_digit_lem (b / 16) (omega (arith, h.0)), is_digit_lem (b % 16) (omega arith)) (all_digits_hex bs h.1)

module _ (h l : ℕ) (hh : h < 256) (hl : l < 256) (dh : is_digit h ≡ true) (dl : is_digit l ≡ true) where
  pub high_back : digit (byte_of h l / 16) ≡ h
  high_back =
      let a : digit_of h < 16 = ltb-true (digit_of h) 16 dh in
      let b : digit_of l < 16 = ltb-true (digit_of l) 16 dl in
      let e : byte_of h l / 16 ≡ digit_of h = omega arith in
      ap digit e ∙ digit_digit_of h hh dh

  pub low_back : digit (byte_of h l % 16) ≡ l
  low_back =
      let a : digit_of h < 16 = ltb-true (digit_of h) 16 dh in
      let b : digit_of l < 16 = ltb-true (digit_of l) 16 dl in
      let e : byte_of h l % 16 ≡ digit_of l = omega arith in
      ap digit e ∙ digit_digit_of l hl dl

pub hex_of_hex : (cs : List ℕ) → Bytes cs → all_digits cs ≡ true → length cs % 2 ≡ 0 → hex (of_hex cs) ≡ cs
unfolding hex of_hex
hex_of_hex [] hb all even = refl
hex_of_hex (c ∷ []) hb all even = absurd (omega arith)
hex_of_hex (h ∷ l ∷ cs) hb all even =
    let first = and_both (is_digit h) (is_digit l && all_digits cs) all in
    let second = and_both (is_digit l) (all_digits cs) first.1 in
    let more = hex_of_hex cs hb.1.1 second.1 (omega arith) in
    ap (λ (x : ℕ). x ∷ digit (byte_of h l % 16) ∷ hex (of_hex cs)) (high_back h l hb.0 hb.1.0 first.0 second.0)
    ∙ ap₂ (λ (x : ℕ) (xs : List ℕ). h ∷ x ∷ xs) (low_back h l hb.0 hb.1.0 first.0 second.0) more
