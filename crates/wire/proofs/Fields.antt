-- The bytes at a place: one field after another is one field, and a field that lies within is what stands there.
-- Assumes nothing.
use mathlib.Core.Path.{◌≡◌, refl, sym, ap, ◌∙◌}
use mathlib.Core.List.{List, ◌∷◌, ◌++◌}
use Prim.Native.Nat.{ℕ, zero, suc, ◌+◌, ◌^◌, ◌≤◌, ◌<◌}
use native.Mathlib.Nat.{zero-add, add-zero, suc-add}
use native.Mathlib.Numerals.{add-one}
use native.Mathlib.Omega.{arith}
use lib.ListN.{length, take, drop, get_or, length-append}
use lib.Seq.{drop-cons, drop_at, take_at}
use Rattle.wire.specs.Numbers.{field, le, of_le}
use Rattle.wire.specs.Each.{Bytes}
use Rattle.wire.proofs.Each.{get_d_each}
use Rattle.wire.proofs.Numbers.{length_le, of_le_le, le_of_le}

pub length_field : (s : List ℕ) (at w : ℕ) → length (field s at w) ≡ w
unfolding field
length_field s at zero = refl
length_field s at (suc w) = ap suc (length_field s (at + 1) w)

pub field_append : (s : List ℕ) (at v w : ℕ) → field s at (v + w) ≡ field s at v ++ field s (at + v) w
unfolding field
field_append s at zero w = simp (zero-add, add-zero)
field_append s at (suc v) w =
    let e : at + 1 + v ≡ at + suc v = omega arith in
    ap (field s at) (suc-add v w)
    ∙ ap (λ (l : List ℕ). get_or s at 0 ∷ l) (field_append s (at + 1) v w ∙ ap (λ (k : ℕ). field s (at + 1) v ++ field s k w) e)

pub field_take : (s : List ℕ) (at w : ℕ) → at + w ≤ length s → field s at w ≡ take w (drop at s)
unfolding field
field_take s at zero h = refl
field_take s at (suc w) h =
    let more : at < length s = omega arith in
    let rest : at + 1 + w ≤ length s = omega arith in
    rw (drop-cons s at 0)
    (ap (λ (l : List ℕ). get_or s at 0 ∷ l) (field_take s (at + 1) w rest ∙ ap (λ (k : ℕ). take w (drop k s)) (add-one at)))

-- what stands after p
pub field_at : (p q r : List ℕ) (at w : ℕ) → length p ≡ at → length q ≡ w → field (p ++ (q ++ r)) at w ≡ q
field_at p q r at w ep eq =
    let within : at + w ≤ length (p ++ (q ++ r)) = simp length-append (omega arith) in
    field_take (p ++ (q ++ r)) at w within
    ∙ ap (take w) (drop_at p (q ++ r) at ep)
    ∙ take_at q r w eq

pub field_bytes : (s : List ℕ) (at w : ℕ) → Bytes s → Bytes (field s at w)
unfolding field
field_bytes s at zero h = tt
field_bytes s at (suc w) h = (get_d_each (λ b. b < 256) (omega arith) s h at, field_bytes s (at + 1) w h)

-- a number written at a place reads back, and one that was read is written again
pub number_at : (p r : List ℕ) (at w v : ℕ) → length p ≡ at → v < 256 ^ w → of_le (field (p ++ (le w v ++ r)) at w) ≡ v
number_at p r at w v ep h = ap of_le (field_at p (le w v) r at w ep (length_le w v)) ∙ of_le_le w v h

pub number_again : (s : List ℕ) (at w : ℕ) → Bytes s → le w (of_le (field s at w)) ≡ field s at w
number_again s at w bytes = ap (λ (n : ℕ). le n (of_le (field s at w))) (sym (length_field s at w)) ∙ le_of_le (field s at w) (field_bytes s at w bytes)
