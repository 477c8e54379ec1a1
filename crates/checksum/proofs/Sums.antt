-- Laws of the LRC: a sum goes on from byte to byte and over stretches; bytes followed by their LRC have the sum 0, and by no other byte.
-- Assumes nothing.
use mathlib.Core.Path.{◌≡◌, ap, ◌∙◌}
use mathlib.Core.List.{List, [], ◌∷◌, ◌++◌}
use Prim.Native.Nat.{ℕ, suc, ◌+◌, ◌%◌, ◌<◌, ◌≤◌}
use native.Mathlib.Numerals.{add-one}
use native.Mathlib.Omega.{arith}
use lib.ListN.{length, get_or, drop, drop_of_length-le}
use lib.Seq.{drop-cons}
use Rattle.checksum.specs.Sums.{total, sum_from, lrc}

-- a loop's turn takes one of the bytes that are left, and its end leaves none
pub sum_turn : (bs : List ℕ) (i c : ℕ) → i < length bs → sum_from ((c + get_or bs i 0) % 256) (drop (i + 1) bs) ≡ sum_from c (drop i bs)
unfolding total
sum_turn bs i c h =
    let byte : (b : ℕ) (l : List ℕ) → sum_from ((c + b) % 256) l ≡ sum_from c (b ∷ l) = λ b l. omega arith in
    rw (add-one, drop-cons bs i 0) (byte (get_or bs i 0) (drop (suc i) bs))

pub sum_last : (bs : List ℕ) (i c : ℕ) → length bs ≤ i → c < 256 → sum_from c (drop i bs) ≡ c
unfolding total
sum_last bs i c h small =
    let none : sum_from c [] ≡ c = omega arith in
    ap (sum_from c) (drop_of_length-le bs h) ∙ none

-- ---- bytes and the one that closes them
total_append : (xs ys : List ℕ) → total (xs ++ ys) ≡ total xs + total ys
unfolding total
total_append [] ys = omega arith
total_append (x ∷ xs) ys = omega (arith, total_append xs ys)

-- a message cut in two anywhere
pub sum_in_stretches : (c : ℕ) (xs ys : List ℕ) → sum_from (sum_from c xs) ys ≡ sum_from c (xs ++ ys)
sum_in_stretches c xs ys = omega (arith, total_append xs ys)

pub lrc_lt : (bs : List ℕ) → lrc bs < 256
lrc_lt bs = omega arith

pub lrc_closes : (bs : List ℕ) → sum_from 0 (bs ++ (lrc bs ∷ [])) ≡ 0
unfolding total
lrc_closes bs = omega (arith, total_append bs (lrc bs ∷ []))

pub lrc_only : (bs : List ℕ) (b : ℕ) → b < 256 → sum_from 0 (bs ++ (b ∷ [])) ≡ 0 → lrc bs ≡ b
unfolding total
lrc_only bs b h e = omega (arith, total_append bs (b ∷ []))
