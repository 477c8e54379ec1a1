-- Laws of the CRC-16: over two stretches in turn, its bound, and that a message followed by its checksum, low byte first, gives 0, and followed by
-- any other two bytes does not.
-- Assumes nothing.
use mathlib.Core.Path.{◌≡◌, refl, sym, ap, ap₂, ◌∙◌}
use mathlib.Core.Bool.{Bool, true, false}
use mathlib.Core.List.{List, [], ◌∷◌, ◌++◌}
use Prim.Native.Nat.{ℕ, zero, suc, ◌+◌, ◌*◌, ◌/◌, ◌%◌, ◌^◌, ◌<◌, ◌≤◌}
use native.Mathlib.Omega.{arith}
use native.Mathlib.Nat.{mul-one}
use lib.Bits.{bit_xor, xor_lt, xor_self, xor_zero_l, xor_zero_r, xor_shifted, xor_shr, xor_mod, shifted_half, shifted_even}
use lib.Dec.{eqb, lit<}
use lib.ListN.{length, get_or, take}
use lib.Seq.{take-add}
use borrow.Author.Tests.{eq-eqb, eqb-true}
use Rattle.wire.specs.Each.{Bytes}
use Rattle.wire.specs.Numbers.{le, of_le, digits, number, field}
use Rattle.wire.proofs.Each.{each_take}
use Rattle.wire.proofs.Fields.{field_take, field_bytes, number_again}
use Rattle.checksum.specs.Crc.{CRC16, crc_bit, crc_bits, crc_byte, crc_from, remainder}
use Rattle.checksum.proofs.Xor.{xor_assoc}
use Rattle.checksum.proofs.Remainder.{remainder_append, bit_lt, remainder_lt, bits_at_once}

-- one stretch after the other
pub crc_from_append : (c : ℕ) (xs ys : List ℕ) → crc_from c (xs ++ ys) ≡ crc_from (crc_from c xs) ys
crc_from_append = remainder_append CRC16

-- the checksum fits 16 bits
pub crc_from_lt : (c : ℕ) (bs : List ℕ) → c < 65536 → Bytes bs → crc_from c bs < 65536
crc_from_lt c bs h hb = remainder_lt CRC16 16 (lit< tt) c bs (omega arith) h hb

-- ---- a message and its checksum
-- the low byte of a remainder takes its own place, and leaves the high byte
low_byte : (c : ℕ) → crc_byte CRC16 c (c % 256) ≡ c / 256
unfolding crc_bits
low_byte c =
    let high : bit_xor c (c % 256) / 2 ^ 8 ≡ c / 256 =
    xor_shr c (c % 256) 8 ∙ ap (bit_xor (c / 256)) (omega arith) ∙ xor_zero_r (c / 256) in
    let low : bit_xor c (c % 256) % 2 ^ 8 ≡ 0 =
    xor_mod c (c % 256) 8 ∙ ap (bit_xor (c % 256)) (omega arith) ∙ xor_self (c % 256) in
    bits_at_once CRC16 8 (bit_xor c (c % 256)) ∙ ap₂ (λ (x y : ℕ). bit_xor x (crc_bits CRC16 8 y)) high low ∙ xor_zero_r (c / 256)

high_byte : (c : ℕ) → crc_byte CRC16 c c ≡ 0
unfolding crc_bits
high_byte c = ap (crc_bits CRC16 8) (xor_self c)

-- over a message followed by its checksum, low byte first, the result is 0; from any start value
pub crc_from_closes : (start : ℕ) (bs : List ℕ) → start < 65536 → Bytes bs → crc_from start (bs ++ le 2 (crc_from start bs)) ≡ 0
unfolding remainder le digits
crc_from_closes start bs h hb =
    let c = crc_from start bs in
    let fits : c / 256 % 256 ≡ c / 256 = omega (arith, crc_from_lt start bs h hb) in
    crc_from_append start bs (le 2 c)
    ∙ ap₂ (λ (x y : ℕ). crc_byte CRC16 x y) (low_byte c) fits
    ∙ high_byte (c / 256)

-- ---- a message that gives 0
-- one bit taken back: where the highest place is free, no bit fell out
bit_back : (c : ℕ) → c < 65536 → crc_bit CRC16 c < 32768 → c ≡ crc_bit CRC16 c * 2
bit_back c h free =
    let above : c / 2 / 2 ^ 15 ≡ 0 = omega arith in
    let highest : c % 2 * 0xA001 / 2 ^ 15 ≡ c % 2 = omega arith in
    let fell : crc_bit CRC16 c / 2 ^ 15 ≡ c % 2 = xor_shr (c / 2) (c % 2 * 0xA001) 15 ∙ ap₂ bit_xor above highest ∙ xor_zero_l (c % 2) in
    let none : c % 2 ≡ 0 = omega (arith, fell, free) in
    let half : crc_bit CRC16 c ≡ c / 2 = ap (λ (k : ℕ). bit_xor (c / 2) (k * 0xA001)) none ∙ xor_zero_r (c / 2) in
    omega (arith, none, half)

bits_back : (n c : ℕ) → c < 65536 → crc_bits CRC16 n c * 2 ^ n < 65536 → c ≡ crc_bits CRC16 n c * 2 ^ n
unfolding crc_bits
bits_back zero c h free = sym (mul-one c)
bits_back (suc n) c h free =
    let r = crc_bits CRC16 n (crc_bit CRC16 c) in
    let twice : r * 2 ^ suc n ≡ r * 2 ^ n * 2 = omega (arith, shifted_half r n, shifted_even r n) in
    let before : crc_bit CRC16 c ≡ r * 2 ^ n = bits_back n (crc_bit CRC16 c) (bit_lt CRC16 16 (lit< tt) c h) (omega (arith, free, twice)) in
    bit_back c h (omega (arith, free, twice, before)) ∙ omega (arith, twice, before)

-- a remainder that a byte brings below 256 was that byte, and above it what it brought
byte_back : (c b : ℕ) → c < 65536 → b < 256 → crc_byte CRC16 c b < 256 → c ≡ crc_byte CRC16 c b * 256 + b
byte_back c b h hb small =
    let both : bit_xor c b ≡ crc_byte CRC16 c b * 2 ^ 8 = bits_back 8 (bit_xor c b) (xor_lt 16 c b h (omega (arith, hb))) (omega (arith, small)) in
    sym (xor_zero_r c)
    ∙ ap (bit_xor c) (sym (xor_self b))
    ∙ sym (xor_assoc c b b)
    ∙ ap (λ (k : ℕ). bit_xor k b) both
    ∙ xor_shifted (crc_byte CRC16 c b) 8 b hb

-- where a message and two bytes give 0, these are its checksum, low byte first; from any start value
pub crc_from_closed : (start : ℕ) (bs : List ℕ) (low high : ℕ) → start < 65536 → Bytes bs → low < 256 → high < 256
    → crc_from start (bs ++ (low ∷ high ∷ [])) ≡ 0 → of_le (low ∷ high ∷ []) ≡ crc_from start bs
unfolding remainder of_le number
crc_from_closed start bs low high h hb hl hh e =
    let c = crc_from start bs in
    let fits = crc_from_lt start bs h hb in
    let x = crc_byte CRC16 c low in
    let last : crc_byte CRC16 x high ≡ 0 = sym (crc_from_append start bs (low ∷ high ∷ [])) ∙ e in
    let second : x ≡ high = byte_back x high (crc_from_lt c (low ∷ []) fits (hl, tt)) hh (omega (arith, last)) ∙ omega (arith, last) in
    sym (byte_back c low fits hl (omega (arith, second, hh)) ∙ omega (arith, second))

both_ways : (a b : Bool) → (a ≡ true → b ≡ true) → (b ≡ true → a ≡ true) → a ≡ b
both_ways true b there back = sym (there refl)
both_ways false true there back = back refl
both_ways false false there back = refl

-- the n bytes at the front of s and the two after them: these are the checksum of the others exactly if all give 0
pub closes_at : (start : ℕ) (s : List ℕ) (n : ℕ) → start < 65536 → Bytes s → n + 2 ≤ length s
    → eqb (of_le (field s n 2)) (crc_from start (take n s)) ≡ eqb (crc_from start (take (n + 2) s)) 0
unfolding field
closes_at start s n h hb some =
    let last = field s n 2 in
    let c = crc_from start (take n s) in
    let before : Bytes (take n s) = each_take (λ b. b < 256) n s hb in
    let two = field_bytes s n 2 hb in
    let all : take (n + 2) s ≡ take n s ++ last = take-add n 2 s ∙ ap (λ (l : List ℕ). take n s ++ l) (sym (field_take s n 2 some)) in
    let closes : of_le last ≡ c → crc_from start (take (n + 2) s) ≡ 0 =
    λ e. ap (crc_from start) (all ∙ ap (λ (l : List ℕ). take n s ++ l) (sym (number_again s n 2 hb) ∙ ap (le 2) e)) ∙ crc_from_closes start (take n s) h before in
    let closed : crc_from start (take (n + 2) s) ≡ 0 → of_le last ≡ c =
    λ e. crc_from_closed start (take n s) (get_or s n 0) (get_or s (n + 1) 0) h before two.0 two.1.0 (sym (ap (crc_from start) all) ∙ e) in
    both_ways (eqb (of_le last) c) (eqb (crc_from start (take (n + 2) s)) 0)
    (λ t. eq-eqb (crc_from start (take (n + 2) s)) 0 (closes (eqb-true (of_le last) c t)))
    (λ t. eq-eqb (of_le last) c (closed (eqb-true (crc_from start (take (n + 2) s)) 0 t)))
