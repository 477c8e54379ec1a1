-- Fields of bits read by bytes: a byte is eight bits, and 64 bits from any place are of eight bytes and a ninth.
-- Assumes nothing.
use mathlib.Core.Path.{◌≡◌, refl, sym, ap, ap₂, ◌∙◌, subst}
use mathlib.Core.List.{List, [], ◌∷◌, ◌++◌}
use Prim.Native.Nat.{ℕ, zero, suc, ◌+◌, ◌-◌, ◌*◌, ◌/◌, ◌%◌, ◌^◌, ◌≤◌, ◌<◌}
use native.Mathlib.Nat.{add-zero, zero-add, add_assoc, mod-eq_of_lt, lt_of_lt_of_le}
use native.Mathlib.Numerals.{add-one}
use native.Mathlib.Omega.{arith}
use lib.ListN.{get_or, take}
use lib.Seq.{drop_at}
use lib.Pow.{pow_mono}
use Rattle.wire.specs.Numbers.{digits, field}
use Rattle.wire.proofs.Fields.{field_at, field_append}
use Rattle.wire.proofs.Turns.{field_drop}
use Rattle.bits.specs.Bits.{bits, of_bits, bits_in}
use Rattle.bits.specs.Fields.{values_from, unpacked, total}
use Rattle.bits.proofs.Bits.{length_bits, of_bits_bits, bits_in_below, field_lt}
use Rattle.bits.proofs.Cut.{field_join, first_part, last_part}

-- the bits of a byte
byte_bits : (s : List ℕ) (i : ℕ) → field (bits_in s) (8 * i) 8 ≡ bits 8 (get_or s i 0)
unfolding bits_in field bits digits
byte_bits [] i = refl
byte_bits (b ∷ s) zero = field_at [] (bits 8 b) (bits_in s) 0 8 refl (length_bits 8 b)
byte_bits (b ∷ s) (suc i) =
    let e : 8 * suc i ≡ 8 + 8 * i = omega arith in
    ap (λ (k : ℕ). field (bits 8 b ++ bits_in s) k 8) e
    ∙ sym (field_drop (bits 8 b ++ bits_in s) 8 (8 * i) 8)
    ∙ ap (λ (l : List ℕ). field l (8 * i) 8) (drop_at (bits 8 b) (bits_in s) 8 (length_bits 8 b))
    ∙ byte_bits s i

module _ (s : List ℕ) where
  byte_value : (i at b : ℕ) → 8 * i ≡ at → b ≡ get_or s i 0 → b < 256 → b ≡ of_bits (field (bits_in s) at 8)
  byte_value i at b ea e h =
      sym (ap (λ (k : ℕ). of_bits (field (bits_in s) k 8)) (sym ea) ∙ ap of_bits (byte_bits s i ∙ ap (bits 8) (sym e)) ∙ of_bits_bits 8 b h)

  -- one byte more
  module _ (i k v : ℕ) (e : v ≡ of_bits (field (bits_in s) (8 * i) (8 * k))) where
    pub byte_room : k < 8 → v < 2 ^ 56
    byte_room few =
        let most : 8 * k ≤ 56 = omega arith in
        lt_of_lt_of_le (subst (λ (n : ℕ). n < 2 ^ (8 * k)) (sym e) (field_lt (bits_in s) (8 * i) (8 * k) (bits_in_below s))) (pow_mono most)

    pub byte_more : (b : ℕ) → b ≡ get_or s (i + k) 0 → b < 256 → v * 256 + b ≡ of_bits (field (bits_in s) (8 * i) (8 * (k + 1)))
    byte_more b eb hb =
        let place : 8 * (i + k) ≡ 8 * i + 8 * k = omega arith in
        let wider : 8 * k + 8 ≡ 8 * (k + 1) = omega arith in
        ap₂ (λ (x y : ℕ). x * 256 + y) e (byte_value (i + k) (8 * i + 8 * k) b place eb hb)
        ∙ sym (field_join (bits_in s) (8 * i) (8 * k) 8)
        ∙ ap (λ (n : ℕ). of_bits (field (bits_in s) (8 * i) n)) wider

  -- the first bits of the ninth byte after the eight bytes
  pub word_from : (at v b x r : ℕ) → v ≡ of_bits (field (bits_in s) (8 * (at / 8)) 64) → b ≡ get_or s (at / 8 + 8) 0 → b < 256 → x ≡ b / 2 ^ (8 - at % 8)
      → r ≡ (v * 2 ^ (at % 8) + x % 2 ^ (at % 8)) % 2 ^ 64 → r ≡ of_bits (field (bits_in s) at 64)
  word_from at v b x r ev eb hb ex er =
      let bs = bits_in s in
      let h = bits_in_below s in
      let o = 8 * (at / 8) in
      let p = at % 8 in
      let ninth : 8 * (at / 8 + 8) ≡ o + 64 = omega arith in
      let cut : 8 ≡ p + (8 - p) = omega arith in
      let turned : 64 + p ≡ p + 64 = omega arith in
      let place : o + p ≡ at = omega arith in
      let first : x ≡ of_bits (field bs (o + 64) p) =
      ex
      ∙ ap (λ (n : ℕ). n / 2 ^ (8 - p)) (byte_value (at / 8 + 8) (o + 64) b ninth eb hb ∙ ap (λ (k : ℕ). of_bits (field bs (o + 64) k)) cut)
      ∙ first_part bs h (o + 64) p (8 - p) in
      er
      ∙ ap₂ (λ (y z : ℕ). (y * 2 ^ p + z) % 2 ^ 64) ev (ap (λ (n : ℕ). n % 2 ^ p) first ∙ mod-eq_of_lt (field_lt bs (o + 64) p h))
      ∙ ap (λ (n : ℕ). n % 2 ^ 64) (sym (field_join bs o 64 p) ∙ ap (λ (k : ℕ). of_bits (field bs o k)) turned)
      ∙ last_part bs h o p 64
      ∙ ap (λ (k : ℕ). of_bits (field bs k 64)) place

  -- w bits of the 64 from their place, and the last 64 of more
  pub bits_few : (at w v r : ℕ) → w < 64 → v ≡ of_bits (field (bits_in s) at 64) → r ≡ v / 2 ^ (64 - w) → r ≡ of_bits (field (bits_in s) at w) % 2 ^ 64
  bits_few at w v r few ev er =
      let cut : 64 ≡ w + (64 - w) = omega arith in
      let most : w ≤ 64 = omega arith in
      er
      ∙ ap (λ (n : ℕ). n / 2 ^ (64 - w)) (ev ∙ ap (λ (k : ℕ). of_bits (field (bits_in s) at k)) cut)
      ∙ first_part (bits_in s) (bits_in_below s) at w (64 - w)
      ∙ sym (mod-eq_of_lt (lt_of_lt_of_le (field_lt (bits_in s) at w (bits_in_below s)) (pow_mono most)))

  pub bits_many : (at w : ℕ) → 64 ≤ w → of_bits (field (bits_in s) (at + (w - 64)) 64) ≡ of_bits (field (bits_in s) at w) % 2 ^ 64
  bits_many at w many =
      let back : w - 64 + 64 ≡ w = omega arith in
      sym (last_part (bits_in s) (bits_in_below s) at (w - 64) 64) ∙ ap (λ (n : ℕ). of_bits (field (bits_in s) at n) % 2 ^ 64) back

-- the bits of one field more
total_next : (ws : List ℕ) (i : ℕ) → total (take (suc i) ws) ≡ total (take i ws) + get_or ws i 0
unfolding total
total_next [] zero = refl
total_next [] (suc i) = refl
total_next (w ∷ ws) zero = omega arith
total_next (w ∷ ws) (suc i) = ap (λ (n : ℕ). w + n) (total_next ws i) ∙ sym (add_assoc w (total (take i ws)) (get_or ws i 0))

pub total_more : (ws : List ℕ) (i : ℕ) → total (take (i + 1) ws) ≡ total (take i ws) + get_or ws i 0
total_more ws i = ap (λ (k : ℕ). total (take k ws)) (add-one i) ∙ total_next ws i

-- ---- fields that lie in the first n bytes
bytes_in : (s : List ℕ) (at n : ℕ) → bits_in (field s at n) ≡ field (bits_in s) (8 * at) (8 * n)
unfolding bits_in field
bytes_in s at zero = refl
bytes_in s at (suc n) =
    let next : 8 * (at + 1) ≡ 8 * at + 8 = omega arith in
    let all : 8 + 8 * n ≡ 8 * suc n = omega arith in
    ap₂ (λ (x y : List ℕ). x ++ y) (sym (byte_bits s at)) (bytes_in s (at + 1) n ∙ ap (λ (k : ℕ). field (bits_in s) k (8 * n)) next)
    ∙ sym (field_append (bits_in s) (8 * at) 8 (8 * n))
    ∙ ap (field (bits_in s) (8 * at)) all

get_d_field : (bs : List ℕ) (i m k : ℕ) → k < m → get_or (field bs i m) k 0 ≡ get_or bs (i + k) 0
unfolding field
get_d_field bs i zero k h = absurd (omega arith)
get_d_field bs i (suc m) zero h = ap (λ (j : ℕ). get_or bs j 0) (sym (add-zero i))
get_d_field bs i (suc m) (suc k) h =
    let e : i + 1 + k ≡ i + suc k = omega arith in
    get_d_field bs (i + 1) m k (omega arith) ∙ ap (λ (j : ℕ). get_or bs j 0) e

field_within : (bs : List ℕ) (m at w : ℕ) → at + w ≤ m → field (field bs 0 m) at w ≡ field bs at w
unfolding field
field_within bs m at zero h = refl
field_within bs m at (suc w) h =
    ap₂ (λ (x : ℕ) (l : List ℕ). x ∷ l) (get_d_field bs 0 m at (omega arith) ∙ ap (λ (j : ℕ). get_or bs j 0) (zero-add at)) (field_within bs m (at + 1) w (omega arith))

values_within : (ws : List ℕ) (at : ℕ) (bs : List ℕ) (m : ℕ) → at + total ws ≤ m → values_from ws at (field bs 0 m) ≡ values_from ws at bs
unfolding values_from total
values_within [] at bs m h = refl
values_within (w ∷ ws) at bs m h =
    let here : at + w ≤ m = omega arith in
    let more : at + w + total ws ≤ m = omega arith in
    ap₂ (λ (x : ℕ) (l : List ℕ). x ∷ l) (ap of_bits (field_within bs m at w here)) (values_within ws (at + w) bs m more)

pub unpacked_front : (ws s : List ℕ) (n : ℕ) → total ws ≤ 8 * n → unpacked ws (field s 0 n) ≡ unpacked ws s
unpacked_front ws s n h =
    ap (values_from ws 0) (bytes_in s 0 n) ∙ values_within ws 0 (bits_in s) (8 * n) (omega arith)
