-- A number written and read again is the number, and bytes read and written again are the bytes: once over the base and the width,
-- then at bytes either way round and at decimal digits.
-- Assumes nothing.
use mathlib.Core.Path.{◌≡◌, refl, sym, ap, ap₂, ◌∙◌}
use mathlib.Core.Bool.{Bool, true, false, ◌&&◌}
use mathlib.Core.List.{List, [], ◌∷◌, map, reverse, reverse-reverse}
use Prim.Native.Nat.{ℕ, zero, suc, ◌+◌, ◌*◌, ◌/◌, ◌%◌, ◌^◌, ◌<◌}
use native.Mathlib.Nat.{mod-lt, mod-eq_of_lt, div-add-mod, add-mul-mod_self_left, add-mul-div_left, div-lt_iff_lt-mul, pow-suc, pow-zero, add_comm, mul_comm, zero-add, div-eq_of_lt}
use native.Mathlib.Omega.{arith}
use lib.Arith.{lt-one, digits_lt}
use lib.Dec.{T, ltb, lit<, ltb→lt, lt→ltb}
use lib.ListN.{length, length-reverse, length-map}
use Rattle.wire.specs.Numbers.{digits, number, le, of_le, be, of_be, bcd_byte, of_bcd_byte, is_bcd_byte, bcd, of_bcd, is_bcd}
use Rattle.wire.specs.Each.{Each, Bytes}
use Rattle.wire.proofs.Each.{each_reverse}

-- ---- over the base and the width
pub length_digits : (base w v : ℕ) → length (digits base w v) ≡ w
unfolding digits
length_digits base zero v = refl
length_digits base (suc w) v = ap suc (length_digits base w (v / base))

module _ (base : ℕ) (pos : 0 < base) where
  pub digits_below : (w v : ℕ) → Each (λ d. d < base) (digits base w v)
  unfolding digits
  digits_below zero v = tt
  digits_below (suc w) v = (mod-lt v pos, digits_below w (v / base))

  pub number_digits : (w v : ℕ) → v < base ^ w → number base (digits base w v) ≡ v
  unfolding digits number
  number_digits zero v h = sym (lt-one (rw pow-zero at h))
  number_digits (suc w) v h =
      let small : v / base < base ^ w = (div-lt_iff_lt-mul pos).1 (rw pow-suc at h) in
      rw (number_digits w (v / base) small) (add_comm (v % base) (base * (v / base)) ∙ div-add-mod v base)

  pub digits_number : (ds : List ℕ) → Each (λ d. d < base) ds → digits base (length ds) (number base ds) ≡ ds
  unfolding digits number
  digits_number [] h = refl
  digits_number (d ∷ ds) h =
      let n = number base ds in
      let low : (d + base * n) % base ≡ d = add-mul-mod_self_left d base n ∙ mod-eq_of_lt h.0 in
      let high : (d + base * n) / base ≡ n = add-mul-div_left d n pos ∙ ap (λ (k : ℕ). k + n) (div-eq_of_lt h.0) ∙ zero-add n in
      ap₂ (λ (x : ℕ) (xs : List ℕ). x ∷ xs) low (ap (digits base (length ds)) high ∙ digits_number ds h.1)

  pub number_lt : (ds : List ℕ) → Each (λ d. d < base) ds → number base ds < base ^ length ds
  unfolding number
  number_lt [] h = rw pow-zero (lit< tt)
  number_lt (d ∷ ds) h =
      rw (pow-suc, add_comm d (base * number base ds), mul_comm base (number base ds)) (digits_lt (number_lt ds h.1) h.0)

-- ---- bytes
pub length_le : (w v : ℕ) → length (le w v) ≡ w
unfolding le
length_le w v = length_digits 256 w v

pub le_bytes : (w v : ℕ) → Bytes (le w v)
unfolding le
le_bytes w v = digits_below 256 (lit< tt) w v

pub of_le_le : (w v : ℕ) → v < 256 ^ w → of_le (le w v) ≡ v
unfolding le of_le
of_le_le w v h = number_digits 256 (lit< tt) w v h

pub le_of_le : (bs : List ℕ) → Bytes bs → le (length bs) (of_le bs) ≡ bs
unfolding le of_le
le_of_le bs h = digits_number 256 (lit< tt) bs h

pub of_le_lt : (bs : List ℕ) → Bytes bs → of_le bs < 256 ^ length bs
unfolding of_le
of_le_lt bs h = number_lt 256 (lit< tt) bs h

pub length_be : (w v : ℕ) → length (be w v) ≡ w
unfolding be
length_be w v = length-reverse (digits 256 w v) ∙ length_digits 256 w v

pub be_bytes : (w v : ℕ) → Bytes (be w v)
unfolding be
be_bytes w v = each_reverse (λ b. b < 256) (digits 256 w v) (digits_below 256 (lit< tt) w v)

pub of_be_be : (w v : ℕ) → v < 256 ^ w → of_be (be w v) ≡ v
unfolding be of_be
of_be_be w v h = ap (number 256) (reverse-reverse (digits 256 w v)) ∙ number_digits 256 (lit< tt) w v h

pub be_of_be : (bs : List ℕ) → Bytes bs → be (length bs) (of_be bs) ≡ bs
unfolding be of_be
be_of_be bs h =
    ap (λ (k : ℕ). reverse (digits 256 k (number 256 (reverse bs)))) (sym (length-reverse bs))
    ∙ ap reverse (digits_number 256 (lit< tt) (reverse bs) (each_reverse (λ b. b < 256) bs h))
    ∙ reverse-reverse bs

-- ---- decimal digits
of_bcd_byte_lem : (d : ℕ) → of_bcd_byte (bcd_byte d) ≡ d
of_bcd_byte_lem d = omega arith

abbrev Decimal : ℕ → Type 0
Decimal b = (b / 16 < 10) × (b % 16 < 10)

bcd_byte_of : (b : ℕ) → Decimal b → bcd_byte (of_bcd_byte b) ≡ b
bcd_byte_of b h = omega arith

decimal : (d : ℕ) → d < 100 → Decimal (bcd_byte d)
decimal d h = (omega arith, omega arith)

below_100 : (b : ℕ) → Decimal b → of_bcd_byte b < 100
below_100 b h = omega arith

both : (a b : Bool) → T (a && b) → T a × T b
both true b t = (tt, t)
both false b t = absurd t

pair : (a b : Bool) → T a → T b → T (a && b)
pair true b s t = t
pair false b s t = absurd s

pub each_decimal : (bs : List ℕ) → T (is_bcd bs) → Each Decimal bs
unfolding is_bcd
each_decimal [] t = tt
each_decimal (b ∷ bs) t =
    let p = both (is_bcd_byte b) (is_bcd bs) t in
    let q = both (ltb (b / 16) 10) (ltb (b % 16) 10) p.0 in
    ((ltb→lt _ _ q.0, ltb→lt _ _ q.1), each_decimal bs p.1)

pub decimal_each : (bs : List ℕ) → Each Decimal bs → T (is_bcd bs)
unfolding is_bcd
decimal_each [] h = tt
decimal_each (b ∷ bs) h =
    pair (is_bcd_byte b) (is_bcd bs)
    (pair (ltb (b / 16) 10) (ltb (b % 16) 10) (lt→ltb _ _ h.0.0) (lt→ltb _ _ h.0.1))
    (decimal_each bs h.1)

unmap : (ds : List ℕ) → map of_bcd_byte (map bcd_byte ds) ≡ ds
unmap [] = refl
unmap (d ∷ ds) = ap₂ (λ (x : ℕ) (xs : List ℕ). x ∷ xs) (of_bcd_byte_lem d) (unmap ds)

remap : (bs : List ℕ) → Each Decimal bs → map bcd_byte (map of_bcd_byte bs) ≡ bs
remap [] h = refl
remap (b ∷ bs) h = ap₂ (λ (x : ℕ) (xs : List ℕ). x ∷ xs) (bcd_byte_of b h.0) (remap bs h.1)

map_decimal : (ds : List ℕ) → Each (λ d. d < 100) ds → Each Decimal (map bcd_byte ds)
map_decimal [] h = tt
map_decimal (d ∷ ds) h = (decimal d h.0, map_decimal ds h.1)

map_below : (bs : List ℕ) → Each Decimal bs → Each (λ d. d < 100) (map of_bcd_byte bs)
map_below [] h = tt
map_below (b ∷ bs) h = (below_100 b h.0, map_below bs h.1)

byte_each : (bs : List ℕ) → Each Decimal bs → Bytes bs
byte_each [] h = tt
byte_each (b ∷ bs) h = (omega (arith, h.0.0, h.0.1), byte_each bs h.1)

pub length_bcd : (w v : ℕ) → length (bcd w v) ≡ w
unfolding bcd
length_bcd w v = length-reverse (map bcd_byte (digits 100 w v)) ∙ length-map (digits 100 w v) bcd_byte ∙ length_digits 100 w v

pub bcd_is_bcd : (w v : ℕ) → T (is_bcd (bcd w v))
unfolding bcd
bcd_is_bcd w v =
    let ds = digits 100 w v in
    decimal_each (reverse (map bcd_byte ds)) (each_reverse Decimal (map bcd_byte ds) (map_decimal ds (digits_below 100 (lit< tt) w v)))

pub of_bcd_bcd : (w v : ℕ) → v < 100 ^ w → of_bcd (bcd w v) ≡ v
unfolding bcd of_bcd
of_bcd_bcd w v h =
    ap (λ (l : List ℕ). number 100 (map of_bcd_byte l)) (reverse-reverse (map bcd_byte (digits 100 w v)))
    ∙ ap (number 100) (unmap (digits 100 w v))
    ∙ number_digits 100 (lit< tt) w v h

pub of_bcd_lt : (bs : List ℕ) → T (is_bcd bs) → of_bcd bs < 100 ^ length bs
unfolding of_bcd
of_bcd_lt bs t =
    let ds = map of_bcd_byte (reverse bs) in
    rw (← (length-map (reverse bs) of_bcd_byte ∙ length-reverse bs))
    (number_lt 100 (lit< tt) ds (map_below (reverse bs) (each_reverse Decimal bs (each_decimal bs t))))

pub bcd_of_bcd : (bs : List ℕ) → T (is_bcd bs) → bcd (length bs) (of_bcd bs) ≡ bs
unfolding bcd of_bcd
bcd_of_bcd bs t =
    let e = each_reverse Decimal bs (each_decimal bs t) in
    ap (λ (k : ℕ). reverse (map bcd_byte (digits 100 k (of_bcd bs)))) (sym (length-map (reverse bs) of_bcd_byte ∙ length-reverse bs))
    ∙ ap (λ (l : List ℕ). reverse (map bcd_byte l)) (digits_number 100 (lit< tt) (map of_bcd_byte (reverse bs)) (map_below (reverse bs) e))
    ∙ ap reverse (remap (reverse bs) e)
    ∙ reverse-reverse bs

pub bcd_bytes : (w v : ℕ) → Bytes (bcd w v)
bcd_bytes w v = byte_each (bcd w v) (each_decimal (bcd w v) (bcd_is_bcd w v))
