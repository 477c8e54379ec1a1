-- Fields written by words: the 64 bits before a place are put together field after field, and stored as bytes.
-- Assumes nothing.
use mathlib.Core.Path.{◌≡◌, refl, sym, ap, ap₂, ◌∙◌}
use mathlib.Core.List.{List, [], ◌∷◌, ◌++◌, reverse-cons}
use Prim.Native.Nat.{ℕ, zero, suc, ◌+◌, ◌-◌, ◌*◌, ◌/◌, ◌%◌, ◌^◌, ◌≤◌, ◌<◌}
use native.Mathlib.Nat.{add-zero, zero-add, add_assoc, suc-add, zero-mul, add-mul, mul_assoc, zero-mod}
use native.Mathlib.Numerals.{add-one}
use native.Mathlib.Omega.{arith}
use lib.ListN.{length, get_or, drop, length-append, length-drop, drop_of_length-le}
use lib.Seq.{sets, take-append-le, drop-append-le, drop-cons, drop-drop, drop_at, get_or-drop}
use lib.Pow.{pow-add, field as pow-field}
use Rattle.wire.specs.Numbers.{digits, number, be, field}
use Rattle.wire.specs.Each.{Each}
use Rattle.wire.proofs.Each.{each_drop}
use Rattle.wire.proofs.Fields.{length_field, field_take, field_at}
use Rattle.wire.proofs.Turns.{field_of_rest}
use Rattle.wire.proofs.Writing.{sets_then}
use Rattle.bits.specs.Bits.{Bit, bits, of_bits, bytes_of}
use Rattle.bits.specs.Fields.{joined, packed, total}
use Rattle.bits.proofs.Bits.{length_bits, of_bits_low, of_bits_append, length_bytes_of}
use Rattle.bits.proofs.Fields.{length_joined, joined_below, joined_append}
use Rattle.bits.proofs.Cut.{field_join, first_part, last_part, times_mod}

-- ---- the 64 bits before a place

-- the fields from the i-th on
field_first : (ws vs : List ℕ) (i : ℕ) → i < length ws
    → joined (drop i ws) (drop i vs) ≡ bits (get_or ws i 0) (get_or vs i 0) ++ joined (drop (i + 1) ws) (drop (i + 1) vs)
unfolding joined
field_first ws vs i more =
    ap (λ (l : List ℕ). joined l (drop i vs)) (drop-cons ws i 0 more)
    ∙ ap₂ (λ (x : ℕ) (l : List ℕ). bits (get_or ws i 0) x ++ l)
    (get_or-drop i vs 0 0 ∙ ap (λ (k : ℕ). get_or vs k 0) (add-zero i))
    (ap₂ joined (ap (λ (k : ℕ). drop k ws) (sym (add-one i))) (drop-drop 1 i vs))

-- past the end the bits are 0
no_bits : (at k : ℕ) → of_bits (field [] at k) ≡ 0
unfolding of_bits number field
no_bits at zero = refl
no_bits at (suc k) =
    of_bits_append (0 ∷ []) (field [] (at + 1) k) k (length_field [] (at + 1) k)
    ∙ ap₂ (λ (x y : ℕ). x + y) (zero-mul (2 ^ k)) (no_bits (at + 1) k)

-- one field more, over plain numbers
spread : (v a b y r m : ℕ) → ((v * a + y) % m * b + r) % m ≡ (v * (a * b) + (y * b + r)) % m
spread v a b y r m =
    times_mod (v * a + y) b r m
    ∙ ap (λ (t : ℕ). (t + r) % m) (add-mul (v * a) y b ∙ ap (λ (t : ℕ). t + y * b) (mul_assoc v a b))
    ∙ ap (λ (t : ℕ). t % m) (add_assoc (v * (a * b)) (y * b) r)

module _ (ws vs : List ℕ) where
  -- v, and after it the bits that are left, are those before the place
  abbrev pub Before : ℕ → ℕ → ℕ → ℕ → Type 0
  Before end i left v =
      (v * 2 ^ left + of_bits (field (joined (drop i ws) (drop i vs)) 0 left)) % 2 ^ 64 ≡ of_bits (field (joined ws vs) 0 end) % 2 ^ 64

  pub before_none : (end : ℕ) → Before end 0 end 0
  before_none end =
      let n = of_bits (field (joined ws vs) 0 end) in
      ap (λ (t : ℕ). t % 2 ^ 64) (ap (λ (t : ℕ). t + n) (zero-mul (2 ^ end)) ∙ zero-add n)

  module _ (end i left v : ℕ) (so : Before end i left v) where
    module _ (w x : ℕ) (h : i < length ws) (ew : w ≡ get_or ws i 0) (ex : x ≡ get_or vs i 0) where
      abbrev rest : List ℕ
      rest = joined (drop (i + 1) ws) (drop (i + 1) vs)

      here : joined (drop i ws) (drop i vs) ≡ bits w x ++ rest
      here = field_first ws vs i h ∙ ap₂ (λ (a b : ℕ). bits a b ++ joined (drop (i + 1) ws) (drop (i + 1) vs)) (sym ew) (sym ex)

      value : of_bits (field (joined (drop i ws) (drop i vs)) 0 w) ≡ x % 2 ^ w
      value = ap (λ (l : List ℕ). of_bits (field l 0 w)) here ∙ ap of_bits (field_at [] (bits w x) rest 0 w refl (length_bits w x)) ∙ of_bits_low w x

      -- the whole of the i-th field
      pub before_more : (r : ℕ) → w ≤ left → r ≡ (v * 2 ^ w + x % 2 ^ w) % 2 ^ 64 → Before end (i + 1) (left - w) r
      before_more r few er =
          let bs = joined (drop i ws) (drop i vs) in
          let k = left - w in
          let cut : w + k ≡ left = omega arith in
          let after : of_bits (field bs (0 + w) k) ≡ of_bits (field rest 0 k) =
          ap of_bits
          (ap (λ (n : ℕ). field bs n k) (zero-add w)
          ∙ sym (field_of_rest bs w k)
          ∙ ap (λ (l : List ℕ). field l 0 k) (ap (drop w) here ∙ drop_at (bits w x) rest w (length_bits w x))) in
          let two : x % 2 ^ w * 2 ^ k + of_bits (field rest 0 k) ≡ of_bits (field bs 0 left) =
          sym (ap (λ (n : ℕ). of_bits (field bs 0 n)) (sym cut) ∙ field_join bs 0 w k ∙ ap₂ (λ (a b : ℕ). a * 2 ^ k + b) value after) in
          ap (λ (t : ℕ). (t * 2 ^ k + of_bits (field rest 0 k)) % 2 ^ 64) er
          ∙ spread v (2 ^ w) (2 ^ k) (x % 2 ^ w) (of_bits (field rest 0 k)) (2 ^ 64)
          ∙ ap₂ (λ (a b : ℕ). (v * a + b) % 2 ^ 64) (sym (pow-add 2 w k) ∙ ap (λ (n : ℕ). 2 ^ n) cut) two
          ∙ so

      -- the first bits of it
      pub before_part : (y r : ℕ) → left < w → y ≡ x / 2 ^ (w - left) → r ≡ (v * 2 ^ left + y % 2 ^ left) % 2 ^ 64 → r ≡ of_bits (field (joined ws vs) 0 end) % 2 ^ 64
      before_part y r some ey er =
          let bs = joined (drop i ws) (drop i vs) in
          let k = w - left in
          let cut : w ≡ left + k = omega arith in
          let first : y % 2 ^ left ≡ of_bits (field bs 0 left) =
          ap (λ (n : ℕ). n % 2 ^ left) ey
          ∙ sym (pow-field x left k)
          ∙ ap (λ (n : ℕ). n / 2 ^ k) (ap (λ (n : ℕ). x % 2 ^ n) (sym cut) ∙ sym value ∙ ap (λ (n : ℕ). of_bits (field bs 0 n)) cut)
          ∙ first_part bs (joined_below (drop i ws) (drop i vs)) 0 left k in
          er ∙ ap (λ (n : ℕ). (v * 2 ^ left + n) % 2 ^ 64) first ∙ so

    -- no field is left
    pub before_all : (r : ℕ) → length ws ≤ i → r ≡ (v * 2 ^ left + 0 % 2 ^ left) % 2 ^ 64 → r ≡ of_bits (field (joined ws vs) 0 end) % 2 ^ 64
    unfolding joined
    before_all r done er =
        let none : 0 % 2 ^ left ≡ of_bits (field (joined (drop i ws) (drop i vs)) 0 left) =
        zero-mod (2 ^ left) ∙ sym (ap (λ (l : List ℕ). of_bits (field (joined l (drop i vs)) 0 left)) (drop_of_length-le ws done) ∙ no_bits 0 left) in
        er ∙ ap (λ (n : ℕ). (v * 2 ^ left + n) % 2 ^ 64) none ∙ so

-- ---- as bytes

-- bytes, and after them more
bytes_plus : (n m : ℕ) (bs : List ℕ) → bytes_of (n + m) bs ≡ bytes_of n bs ++ bytes_of m (drop (8 * n) bs)
unfolding bytes_of
bytes_plus zero m bs = ap (λ (k : ℕ). bytes_of k bs) (zero-add m)
bytes_plus (suc n) m bs =
    let e : 8 + 8 * n ≡ 8 * suc n = omega arith in
    ap (λ (k : ℕ). bytes_of k bs) (suc-add n m)
    ∙ ap (λ (l : List ℕ). of_bits (field bs 0 8) ∷ l)
    (bytes_plus n m (drop 8 bs) ∙ ap (λ (l : List ℕ). bytes_of n (drop 8 bs) ++ bytes_of m l) (drop-drop (8 * n) 8 bs ∙ ap (λ (k : ℕ). drop k bs) e))

-- bits that are left after n bytes do not change them
bytes_front : (n : ℕ) (xs ys : List ℕ) → 8 * n ≤ length xs → bytes_of n (xs ++ ys) ≡ bytes_of n xs
unfolding bytes_of
bytes_front zero xs ys h = refl
bytes_front (suc n) xs ys h =
    let some : 8 ≤ length xs = omega arith in
    let both : 0 + 8 ≤ length (xs ++ ys) = rw (length-append xs ys) (omega arith) in
    let more : 8 * n ≤ length (drop 8 xs) = rw (length-drop 8 xs) (omega arith) in
    ap₂ (λ (x : ℕ) (l : List ℕ). x ∷ l)
    (ap of_bits (field_take (xs ++ ys) 0 8 both ∙ take-append-le 8 xs ys some ∙ sym (field_take xs 0 8 some)))
    (ap (bytes_of n) (drop-append-le 8 xs ys some) ∙ bytes_front n (drop 8 xs) ys more)

-- fields that fill n bytes, and after them others
pub packed_append : (n m : ℕ) (ws vs ws' vs' : List ℕ) → total ws ≡ 8 * n → length ws ≡ length vs
    → packed (n + m) (ws ++ ws') (vs ++ vs') ≡ packed n ws vs ++ packed m ws' vs'
packed_append n m ws vs ws' vs' filled e =
    let xs = joined ws vs in
    let ys = joined ws' vs' in
    let long : length xs ≡ 8 * n = length_joined ws vs ∙ filled in
    ap (bytes_of (n + m)) (joined_append ws vs ws' vs' e)
    ∙ bytes_plus n m (xs ++ ys)
    ∙ ap₂ (λ (x y : List ℕ). x ++ bytes_of m y) (bytes_front n xs ys (omega arith)) (drop_at xs ys (8 * n) long)

-- stored after those that are stored
pub bytes_then : (out bs : List ℕ) (i m : ℕ) → sets (sets out 0 (bytes_of i bs)) i (bytes_of m (drop (8 * i) bs)) ≡ sets out 0 (bytes_of (i + m) bs)
bytes_then out bs i m =
    sets_then out (bytes_of i bs) (bytes_of m (drop (8 * i) bs)) i (length_bytes_of i bs) ∙ ap (sets out 0) (sym (bytes_plus i m bs))

-- the lowest n bytes of a number of bits are its last
bytes_number : (n : ℕ) (bs : List ℕ) (a : ℕ) → Each Bit bs → be n (of_bits (field bs 0 (a + 8 * n))) ≡ bytes_of n (drop a bs)
unfolding be digits bytes_of
bytes_number zero bs a h = refl
bytes_number (suc n) bs a h =
    let e : a + 8 * suc n ≡ a + 8 * n + 8 = omega arith in
    let p = a + 8 * n in
    let v = of_bits (field bs 0 (p + 8)) in
    ap (λ (k : ℕ). be (suc n) (of_bits (field bs 0 k))) e
    ∙ reverse-cons (v % 256) (digits 256 n (v / 256))
    ∙ ap₂ (λ (x y : ℕ). be n x ++ (y ∷ []))
    (first_part bs h 0 p 8)
    (last_part bs h 0 p 8 ∙ ap of_bits (ap (λ (k : ℕ). field bs k 8) (zero-add p) ∙ sym (field_of_rest bs p 8)))
    ∙ ap₂ (λ (l r : List ℕ). l ++ bytes_of 1 r) (bytes_number n bs a h) (sym (drop-drop (8 * n) a bs))
    ∙ sym (ap (λ (k : ℕ). bytes_of k (drop a bs)) (sym (add-one n)) ∙ bytes_plus n 1 (drop a bs))

-- n bytes from the number of the 64 bits before their end
pub bytes_before : (bs : List ℕ) → Each Bit bs → (i n w : ℕ) → n ≤ 8 → 64 ≤ 8 * i + 8 * n → w ≡ of_bits (field bs 0 (8 * i + 8 * n)) % 2 ^ 64
    → be n w ≡ bytes_of n (drop (8 * i) bs)
bytes_before bs h i n w few many e =
    let p = 8 * i + 8 * n - 64 in
    let a = 64 - 8 * n in
    let whole : 8 * i + 8 * n ≡ p + 64 = omega arith in
    let cut : 64 ≡ a + 8 * n = omega arith in
    let place : p + a ≡ 8 * i = omega arith in
    ap (be n)
    (e
    ∙ ap (λ (k : ℕ). of_bits (field bs 0 k) % 2 ^ 64) whole
    ∙ last_part bs h 0 p 64
    ∙ ap of_bits (ap (λ (k : ℕ). field bs k 64) (zero-add p) ∙ sym (field_of_rest bs p 64) ∙ ap (field (drop p bs) 0) cut))
    ∙ bytes_number n (drop p bs) a (each_drop Bit p bs h)
    ∙ ap (bytes_of n) (drop-drop a p bs ∙ ap (λ (k : ℕ). drop k bs) place)
