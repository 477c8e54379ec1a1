-- The digits, there and back, and by ranges as the code has them: each is computed for all characters or numbers below a bound.
-- Assumes nothing.
use mathlib.Core.Path.{◌≡◌, refl, sym, ap, ◌∙◌}
use mathlib.Core.Bool.{Bool, true, false, not, ◌&&◌, ◌||◌}
use Prim.Native.Nat.{ℕ, zero, suc, ◌+◌, ◌*◌, ◌-◌, ◌/◌, ◌%◌, ◌<◌, ◌≤◌}
use native.Mathlib.Omega.{arith}
use lib.Dec.{ltb, eqb}
use borrow.Author.Tests.{eqb-true, eqb-false, ltb-true, ltb-false}
use Rattle.wire.specs.Digits.{ascii, place_in, digit, digit_of, is_digit}
use Rattle.wire.specs.Refusal.{pick}
use Rattle.wire.proofs.Bools.{and_both}

-- a test passed by all numbers below n
abbrev below : ℕ → (ℕ → Bool) → Bool
below zero test = true
below (suc n) test = test n && below n test

below_all : (n : ℕ) (test : ℕ → Bool) → below n test ≡ true → (k : ℕ) → k < n → test k ≡ true
below_all zero test h k less = absurd (omega arith)
below_all (suc n) test h k less = go (eqb k n) refl (below_all n test both.1 k)
  where
    both : (test n ≡ true) × (below n test ≡ true)
    both = and_both (test n) (below n test) h

    go : (b : Bool) → eqb k n ≡ b → (k < n → test k ≡ true) → test k ≡ true
    go true e earlier = ap test (eqb-true k n e) ∙ both.0
    go false e earlier =
        let other : k ≡ n → ⊥ = eqb-false k n e in
        earlier (omega arith)

-- ---- the digit of a number: 0 to 9, then A to F
pub low_digit : (d : ℕ) → d < 10 → 48 + d ≡ digit d
unfolding digit ascii
low_digit d h = eqb-true (48 + d) (digit d) (below_all 10 (λ d. eqb (48 + d) (digit d)) refl d h)

either : (a b : Bool) → (not a || b) ≡ true → a ≡ true → b ≡ true
either a b e h = cc

pub high_digit : (d : ℕ) → 10 ≤ d → d < 16 → 55 + d ≡ digit d
unfolding digit ascii
high_digit d least h =
    let k = d - 10 in
    let e : 10 + k ≡ d = omega arith in
    let at : 55 + (10 + k) ≡ digit (10 + k) = eqb-true (55 + (10 + k)) (digit (10 + k)) (below_all 6 (λ k. eqb (55 + (10 + k)) (digit (10 + k))) refl k (omega arith)) in
    ap (λ (n : ℕ). 55 + n) (sym e) ∙ at ∙ ap digit e

-- ---- the number of a digit, by the range in which its character lies: what f gives each of n characters from a on is tried
in_range : (a n : ℕ) (f : ℕ → ℕ) → below n (λ k. eqb (f (a + k)) (digit_of (a + k))) ≡ true → (c : ℕ) → a ≤ c → c < a + n → f c ≡ digit_of c
in_range a n f h c least most =
    let k = c - a in
    let e : a + k ≡ c = omega arith in
    sym (ap f e) ∙ eqb-true (f (a + k)) (digit_of (a + k)) (below_all n (λ k. eqb (f (a + k)) (digit_of (a + k))) h k (omega arith)) ∙ ap digit_of e

-- what is not in a range and not below it is past it
past : {a b c : ℕ} → (a ≤ c → c < b → ⊥) → a ≤ c → b ≤ c
past {a} {b} {c} out least = go (ltb c b) refl
  where
    go : (t : Bool) → ltb c b ≡ t → b ≤ c
    go true e = absurd (out least (ltb-true c b e))
    go false e = ltb-false c b e

module _ (c : ℕ) where
  pub decimal_number : 48 ≤ c → c < 58 → c - 48 ≡ digit_of c
  unfolding ascii place_in digit_of pick
  decimal_number least most = in_range 48 10 (λ c. c - 48) refl c least (omega arith)

  pub letter_number : 65 ≤ c → c < 71 → c - 65 + 10 ≡ digit_of c
  unfolding ascii place_in digit_of pick
  letter_number least most = in_range 65 6 (λ c. c - 65 + 10) refl c least (omega arith)

  -- none before, between and after them
  pub no_number : c < 256 → (48 ≤ c → c < 58 → ⊥) → (65 ≤ c → c < 71 → ⊥) → 16 ≡ digit_of c
  unfolding ascii place_in digit_of pick
  no_number byte decimal letter = go (ltb c 48) refl (ltb c 65) refl
    where
      go : (low : Bool) → ltb c 48 ≡ low → (mid : Bool) → ltb c 65 ≡ mid → 16 ≡ digit_of c
      go true e mid em = in_range 0 48 (λ c. 16) refl c (omega arith) (ltb-true c 48 e)
      go false e true em = in_range 58 7 (λ c. 16) refl c (past decimal (ltb-false c 48 e)) (ltb-true c 65 em)
      go false e false em = in_range 71 185 (λ c. 16) refl c (past letter (ltb-false c 65 em)) byte

-- and by all ranges at once
abbrev pub by_range : ℕ → ℕ
by_range c = pick (ltb c 48) 16 (pick (ltb c 58) (c - 48) (pick (ltb c 65) 16 (pick (ltb c 71) (c - 55) 16)))

pub by_range_lem : (c : ℕ) → c < 256 → by_range c ≡ digit_of c
unfolding pick ascii place_in digit_of
by_range_lem c h = eqb-true (by_range c) (digit_of c) (below_all 256 (λ c. eqb (by_range c) (digit_of c)) refl c h)

-- ---- there and back
pub digit_of_digit : (d : ℕ) → d < 16 → digit_of (digit d) ≡ d
unfolding pick ascii place_in digit_of digit
digit_of_digit d h = eqb-true (digit_of (digit d)) d (below_all 16 (λ d. eqb (digit_of (digit d)) d) refl d h)

pub digit_digit_of : (c : ℕ) → c < 256 → is_digit c ≡ true → digit (digit_of c) ≡ c
unfolding pick ascii place_in digit_of digit
digit_digit_of c h is =
    eqb-true (digit (digit_of c)) c
    (either (is_digit c) (eqb (digit (digit_of c)) c) (below_all 256 (λ c. not (is_digit c) || eqb (digit (digit_of c)) c) refl c h) is)

-- the number of a digit, without a test of which it is
pub digit_of_number : (c : ℕ) → c < 256 → is_digit c ≡ true → c % 16 + c / 64 * 9 ≡ digit_of c
unfolding pick ascii place_in digit_of
digit_of_number c h is =
    eqb-true (c % 16 + c / 64 * 9) (digit_of c)
    (either (is_digit c) (eqb (c % 16 + c / 64 * 9) (digit_of c)) (below_all 256 (λ c. not (is_digit c) || eqb (c % 16 + c / 64 * 9) (digit_of c)) refl c h) is)
