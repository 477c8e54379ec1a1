-- A number as bits and back, over the width; and bytes as bits and back.
-- Assumes nothing.
use mathlib.Core.Path.{◌≡◌, refl, sym, ap, ap₂, ◌∙◌, subst}
use mathlib.Core.List.{List, [], ◌∷◌, ◌++◌, reverse, reverse-append, reverse-reverse}
use Prim.Native.Nat.{ℕ, zero, suc, ◌+◌, ◌*◌, ◌/◌, ◌%◌, ◌^◌, ◌≤◌, ◌<◌}
use native.Mathlib.Nat.{zero-add, add_comm, mul_assoc, mul_comm, one-mul, pow-suc, mod-one, mod-eq_of_lt}
use native.Mathlib.Numerals.{add-one}
use native.Mathlib.Omega.{arith}
use lib.Dec.{lit<}
use lib.ListN.{length, drop, length-append, length-reverse, length-drop, drop_of_length-le, take-append-drop}
use lib.Seq.{drop_at}
use lib.Pow.{mod-pow-add}
use Rattle.wire.specs.Numbers.{digits, number, field}
use Rattle.wire.specs.Each.{Each, Bytes}
use Rattle.wire.proofs.Each.{get_d_each, each_append, each_reverse, each_drop}
use Rattle.wire.proofs.Numbers.{length_digits, digits_below, digits_number, number_lt}
use Rattle.wire.proofs.Fields.{length_field, field_take, field_at}
use Rattle.bits.specs.Bits.{Bit, bits, of_bits, bits_in, bytes_of}

-- ---- a number
pub length_bits : (w v : ℕ) → length (bits w v) ≡ w
unfolding bits
length_bits w v = length-reverse (digits 2 w v) ∙ length_digits 2 w v

pub bits_below : (w v : ℕ) → Each Bit (bits w v)
unfolding bits
bits_below w v = each_reverse Bit (digits 2 w v) (digits_below 2 (lit< tt) w v)

-- of a number that may be too large, its lowest bits
low_digits : (w v : ℕ) → number 2 (digits 2 w v) ≡ v % 2 ^ w
unfolding digits number
low_digits zero v = sym (mod-one v)
low_digits (suc w) v =
    let more = low_digits w (v / 2) in
    let cut = mod-pow-add v w 1 in
    let whole : v % 2 ^ suc w ≡ v % 2 ^ (w + 1) = ap (λ (k : ℕ). v % 2 ^ k) (sym (add-one w)) in
    let turned : (x : ℕ) → v % 2 + 2 * x ≡ x * 2 + v % 2 = λ x. omega arith in
    ap (λ (n : ℕ). v % 2 + 2 * n) more ∙ turned (v / 2 % 2 ^ w) ∙ sym (whole ∙ cut)

pub of_bits_low : (w v : ℕ) → of_bits (bits w v) ≡ v % 2 ^ w
unfolding bits of_bits
of_bits_low w v = ap (number 2) (reverse-reverse (digits 2 w v)) ∙ low_digits w v

pub of_bits_bits : (w v : ℕ) → v < 2 ^ w → of_bits (bits w v) ≡ v
of_bits_bits w v h = of_bits_low w v ∙ mod-eq_of_lt h

pub bits_of_bits : (w : ℕ) (bs : List ℕ) → Each Bit bs → length bs ≡ w → bits w (of_bits bs) ≡ bs
unfolding bits of_bits
bits_of_bits w bs h e =
    ap (λ (k : ℕ). reverse (digits 2 k (number 2 (reverse bs)))) (sym (length-reverse bs ∙ e))
    ∙ ap reverse (digits_number 2 (lit< tt) (reverse bs) (each_reverse Bit bs h))
    ∙ reverse-reverse bs

pub of_bits_lt : (w : ℕ) (bs : List ℕ) → Each Bit bs → length bs ≡ w → of_bits bs < 2 ^ w
unfolding of_bits
of_bits_lt w bs h e =
    subst (λ (k : ℕ). number 2 (reverse bs) < 2 ^ k) (length-reverse bs ∙ e) (number_lt 2 (lit< tt) (reverse bs) (each_reverse Bit bs h))

-- bits, and more bits after them
number_step : (d n l x r : ℕ) → r ≡ n + l * x → d + 2 * r ≡ d + 2 * n + l * 2 * x
number_step d n l x r e =
    let m : l * 2 * x ≡ 2 * (l * x) = ap (λ (k : ℕ). k * x) (mul_comm l 2) ∙ mul_assoc 2 l x in
    omega arith

number_append : (xs ys : List ℕ) → number 2 (xs ++ ys) ≡ number 2 xs + 2 ^ length xs * number 2 ys
unfolding number
number_append [] ys = sym (zero-add (1 * number 2 ys) ∙ one-mul (number 2 ys))
number_append (d ∷ xs) ys =
    number_step d (number 2 xs) (2 ^ length xs) (number 2 ys) (number 2 (xs ++ ys)) (number_append xs ys)
    ∙ ap (λ (k : ℕ). d + 2 * number 2 xs + k * number 2 ys) (sym (pow-suc 2 (length xs)))

pub of_bits_append : (xs ys : List ℕ) (b : ℕ) → length ys ≡ b → of_bits (xs ++ ys) ≡ of_bits xs * 2 ^ b + of_bits ys
unfolding of_bits
of_bits_append xs ys b e =
    ap (number 2) (reverse-append xs ys)
    ∙ number_append (reverse ys) (reverse xs)
    ∙ ap (λ (k : ℕ). number 2 (reverse ys) + 2 ^ k * number 2 (reverse xs)) (length-reverse ys ∙ e)
    ∙ add_comm (number 2 (reverse ys)) (2 ^ b * number 2 (reverse xs))
    ∙ ap (λ (k : ℕ). k + number 2 (reverse ys)) (mul_comm (2 ^ b) (number 2 (reverse xs)))

-- ---- bytes
pub bits_in_below : (s : List ℕ) → Each Bit (bits_in s)
unfolding bits_in
bits_in_below [] = tt
bits_in_below (b ∷ s) = each_append Bit (bits 8 b) (bits_in s) (bits_below 8 b) (bits_in_below s)

pub length_bits_in : (s : List ℕ) → length (bits_in s) ≡ 8 * length s
unfolding bits_in
length_bits_in [] = refl
length_bits_in (b ∷ s) = length-append (bits 8 b) (bits_in s) ∙ ap₂ (λ (x y : ℕ). x + y) (length_bits 8 b) (length_bits_in s) ∙ omega arith

pub field_below : (bs : List ℕ) (at w : ℕ) → Each Bit bs → Each Bit (field bs at w)
unfolding field
field_below bs at zero h = tt
field_below bs at (suc w) h = (get_d_each Bit (omega arith) bs h at, field_below bs (at + 1) w h)

-- a field of bits fits its width
pub field_lt : (bs : List ℕ) (at w : ℕ) → Each Bit bs → of_bits (field bs at w) < 2 ^ w
field_lt bs at w h = of_bits_lt w (field bs at w) (field_below bs at w h) (length_field bs at w)

pub length_bytes_of : (n : ℕ) (bs : List ℕ) → length (bytes_of n bs) ≡ n
unfolding bytes_of
length_bytes_of zero bs = refl
length_bytes_of (suc n) bs = ap suc (length_bytes_of n (drop 8 bs))

-- bytes of bits, as bits again
pub bits_in_bytes_of : (n : ℕ) (bs : List ℕ) → Each Bit bs → length bs ≡ 8 * n → bits_in (bytes_of n bs) ≡ bs
unfolding bits_in bytes_of
bits_in_bytes_of zero bs h e =
    let none : length bs ≤ 0 = omega arith in
    sym (drop_of_length-le bs none)
bits_in_bytes_of (suc n) bs h e =
    let eight : 0 + 8 ≤ length bs = omega arith in
    let left : length (drop 8 bs) ≡ 8 * n = length-drop 8 bs ∙ omega arith in
    ap₂ (λ (x y : List ℕ). x ++ y)
    (bits_of_bits 8 (field bs 0 8) (field_below bs 0 8 h) (length_field bs 0 8) ∙ field_take bs 0 8 eight)
    (bits_in_bytes_of n (drop 8 bs) (each_drop Bit 8 bs h) left)
    ∙ take-append-drop 8 bs

-- bits of bytes, as bytes again
pub bytes_of_bits_in : (s : List ℕ) → Bytes s → bytes_of (length s) (bits_in s) ≡ s
unfolding bits_in bytes_of
bytes_of_bits_in [] h = refl
bytes_of_bits_in (b ∷ s) h =
    ap₂ (λ (x : ℕ) (xs : List ℕ). x ∷ xs)
    (ap of_bits (field_at [] (bits 8 b) (bits_in s) 0 8 refl (length_bits 8 b)) ∙ of_bits_bits 8 b h.0)
    (ap (bytes_of (length s)) (drop_at (bits 8 b) (bits_in s) 8 (length_bits 8 b)) ∙ bytes_of_bits_in s h.1)
