-- What holds of each element of a list: of a part, of the whole reversed, and from what holds at each place.
-- Assumes nothing.
use mathlib.Core.List.{List, [], ◌∷◌, ◌++◌, reverse, reverse_aux}
use Prim.Native.Nat.{ℕ, zero, suc}
use lib.ListN.{get_or, take, drop}
use Rattle.wire.specs.Each.{Each}

module _ (P : ℕ → Type 0) where
  pub each_get_d : (xs : List ℕ) → ((k : ℕ) → P (get_or xs k 0)) → Each P xs
  each_get_d [] h = tt
  each_get_d (x ∷ xs) h = (h 0, each_get_d xs (λ k. h (suc k)))

  pub get_d_each : P 0 → (xs : List ℕ) → Each P xs → (k : ℕ) → P (get_or xs k 0)
  get_d_each z [] h k = z
  get_d_each z (x ∷ xs) h zero = h.0
  get_d_each z (x ∷ xs) h (suc k) = get_d_each z xs h.1 k

  pub each_append : (xs ys : List ℕ) → Each P xs → Each P ys → Each P (xs ++ ys)
  each_append [] ys h k = k
  each_append (x ∷ xs) ys h k = (h.0, each_append xs ys h.1 k)

  each_reverse_aux : (xs r : List ℕ) → Each P xs → Each P r → Each P (reverse_aux xs r)
  each_reverse_aux [] r h k = k
  each_reverse_aux (x ∷ xs) r h k = each_reverse_aux xs (x ∷ r) h.1 (h.0, k)

  pub each_reverse : (xs : List ℕ) → Each P xs → Each P (reverse xs)
  each_reverse xs h = each_reverse_aux xs [] h tt

  pub each_drop : (n : ℕ) (xs : List ℕ) → Each P xs → Each P (drop n xs)
  each_drop zero xs h = h
  each_drop (suc n) [] h = tt
  each_drop (suc n) (x ∷ xs) h = each_drop n xs h.1

  pub each_take : (n : ℕ) (xs : List ℕ) → Each P xs → Each P (take n xs)
  each_take zero xs h = tt
  each_take (suc n) [] h = tt
  each_take (suc n) (x ∷ xs) h = (h.0, each_take n xs h.1)
