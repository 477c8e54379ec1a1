-- A turn of each loop that reads a number or stores one, over the width.
-- Assumes nothing.
use mathlib.Core.Path.{◌≡◌, refl, sym, ap, ap₂, ◌∙◌}
use mathlib.Core.List.{List, ◌∷◌}
use Prim.Native.Nat.{ℕ, zero, suc, ◌+◌, ◌-◌, ◌*◌, ◌^◌, ◌<◌, ◌≤◌}
use native.Mathlib.Nat.{pow-suc, pow-le-pow_right, sub_self, pow-zero, add-zero}
use native.Mathlib.Numerals.{add-one}
use native.Mathlib.Omega.{arith}
use lib.Arith.{digits_lt}
use lib.Dec.{lit<, ltb}
use mathlib.Core.Bool.{Bool, true, false}
use borrow.Author.Tests.{ltb-true, ltb-false}
use lib.ListN.{length, get_or, drop, drop_of_length-le, get_or-eq_default}
use lib.Seq.{get_or-drop, drop-cons}
use Rattle.wire.specs.Numbers.{number, of_le, field}

-- the bytes of a part from its beginning are the bytes of the whole from the part's place
pub field_drop : (s : List ℕ) (at i w : ℕ) → field (drop at s) i w ≡ field s (at + i) w
unfolding field
field_drop s at i zero = refl
field_drop s at i (suc w) =
    let e : at + (i + 1) ≡ at + i + 1 = omega arith in
    ap₂ (λ (x : ℕ) (xs : List ℕ). x ∷ xs) (get_or-drop at s i 0) (field_drop s at (i + 1) w ∙ ap (λ (k : ℕ). field s k w) e)

pub field_of_rest : (s : List ℕ) (at w : ℕ) → field (drop at s) 0 w ≡ field s at w
field_of_rest s at w = field_drop s at 0 w ∙ ap (λ (k : ℕ). field s k w) (add-zero at)

-- what the first bytes say of what is left from a place on, the bytes at that place say
pub read_at : {A : Type 0} (says : List ℕ → A) (s p : List ℕ) (at w : ℕ) (r : A) → r ≡ says (field p 0 w) → p ≡ drop at s → r ≡ says (field s at w)
read_at says s p at w r e ep = e ∙ ap (λ (l : List ℕ). says (field l 0 w)) ep ∙ ap says (field_of_rest s at w)

-- bytes past the end add nothing
pub of_le_past : (s : List ℕ) (at w : ℕ) → length s ≤ at + w → of_le (field s at w) ≡ of_le (drop at s)
unfolding of_le number field
of_le_past s at zero h = sym (ap of_le (drop_of_length-le s {i = at} (omega arith)))
of_le_past s at (suc w) h = go (ltb at (length s)) refl (of_le_past s (at + 1) w (omega arith))
  where
    go : (t : Bool) → ltb at (length s) ≡ t → of_le (field s (at + 1) w) ≡ of_le (drop (at + 1) s) → of_le (field s at (suc w)) ≡ of_le (drop at s)
    go true e more =
        let within : at < length s = ltb-true at (length s) e in
        ap (λ (n : ℕ). get_or s at 0 + 256 * n) more ∙ sym (ap of_le (drop-cons s at 0 within ∙ ap (λ (k : ℕ). get_or s at 0 ∷ drop k s) (sym (add-one at))))
    go false e more =
        let past : length s ≤ at = ltb-false at (length s) e in
        let later : length s ≤ at + 1 = omega arith in
        ap₂ (λ (b n : ℕ). b + 256 * n) (get_or-eq_default s 0 past) (more ∙ ap of_le (drop_of_length-le s later))
        ∙ sym (ap of_le (drop_of_length-le s past))

pub of_le_whole : (s : List ℕ) (w : ℕ) → length s ≤ w → of_le (field s 0 w) ≡ of_le s
of_le_whole s w h = of_le_past s 0 w (omega arith)

-- ---- reading, from the last byte to the first

-- v is the number of the bytes from i up to w, least significant first
pub record From (s : List ℕ) (w i v : ℕ) : Type 0 where
  pub within : i ≤ w
  pub is : v ≡ of_le (field s i (w - i))
  pub small : v < 256 ^ (w - i)

module _ (s : List ℕ) (w : ℕ) where
  pub from_end : From s w w 0
  unfolding of_le number field
  from_end =
      let z : w - w ≡ 0 = sub_self w in
      record { within = omega arith; is = sym (ap (λ (k : ℕ). of_le (field s w k)) z); small = rw (z, pow-zero) (lit< tt) }

  module _ (i v : ℕ) (p : From s w i v) (more : 0 < i) where
    -- up to seven bytes leave room for one more
    pub from_room : w ≤ 8 → (b : ℕ) → b < 256 → v * 256 + b < 256 ^ 8
    from_room few b h =
        let up : w - i ≤ 7 = omega arith in
        let big : 256 ^ (w - i) ≤ 256 ^ 7 = pow-le-pow_right (lit< tt) up in
        let fits : v < 256 ^ 7 = omega (arith, p.small) in
        omega arith

    pub from_more : (b : ℕ) → b < 256 → b ≡ get_or s (i - 1) 0 → From s w (i - 1) (v * 256 + b)
    unfolding of_le number field
    from_more b h e =
        let longer : w - (i - 1) ≡ suc (w - i) = omega (arith, p.within) in
        let back : i - 1 + 1 ≡ i = omega arith in
        let turned : v * 256 + b ≡ b + 256 * v = omega arith in
        record {
          within = omega (arith, p.within);
          is =
              turned
              ∙ ap₂ (λ (x y : ℕ). x + 256 * y) e (p.is ∙ ap (λ (k : ℕ). of_le (field s k (w - i))) (sym back))
              ∙ sym (ap (λ (k : ℕ). of_le (field s (i - 1) k)) longer);
          small = rw (longer, pow-suc) (digits_lt p.small h);
        }

  pub from_all : (i v : ℕ) → From s w i v → i ≤ 0 → (v ≡ of_le (field s 0 w)) × (v < 256 ^ w)
  from_all i v p h =
      let z : i ≡ 0 = omega arith in
      let e : w - i ≡ w = omega arith in
      (p.is ∙ ap₂ (λ (x y : ℕ). of_le (field s x y)) z e, rw e at p.small)
