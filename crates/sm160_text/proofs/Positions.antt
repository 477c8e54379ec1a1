-- Line and column, a character after another.
-- Assumes nothing.
use mathlib.Core.Path.{◌≡◌, refl, sym, ap, ap₂, ◌∙◌}
use mathlib.Core.List.{List, [], ◌∷◌}
use Prim.Native.Nat.{ℕ, ◌+◌, ◌≤◌, ◌<◌}
use native.Mathlib.Nat.{add-zero}
use native.Mathlib.Omega.{arith}
use lib.Dec.{eqb}
use lib.ListN.{length, take, drop, get_or, drop_of_length-le}
use borrow.Author.Tests.{eq-eqb, ne_eqb}
use Rattle.sm160_text.specs.declared.Position.{Position}
use Rattle.sm160_text.specs.Position.{feeds, column_from, position}
use Rattle.sm160_text.proofs.Places.{drop_next, cond_true, cond_false}

-- a line feed, and any other character
module _ (b : ℕ) (bs : List ℕ) where
  pub feeds_feed : b ≡ 10 → feeds (b ∷ bs) ≡ 1 + feeds bs
  unfolding feeds
  feeds_feed e = cond_true (eqb b 10) (1 + feeds bs) (feeds bs) (eq-eqb b 10 e)

  pub feeds_other : (b ≡ 10 → ⊥) → feeds (b ∷ bs) ≡ feeds bs
  unfolding feeds
  feeds_other n = cond_false (eqb b 10) (1 + feeds bs) (feeds bs) (ne_eqb b 10 n)

  pub column_feed : (c : ℕ) → b ≡ 10 → column_from c (b ∷ bs) ≡ column_from 1 bs
  unfolding column_from
  column_feed c e = cond_true (eqb b 10) (column_from 1 bs) (column_from (c + 1) bs) (eq-eqb b 10 e)

  pub column_other : (c : ℕ) → (b ≡ 10 → ⊥) → column_from c (b ∷ bs) ≡ column_from (c + 1) bs
  unfolding column_from
  column_other c n = cond_false (eqb b 10) (column_from 1 bs) (column_from (c + 1) bs) (ne_eqb b 10 n)

-- where i characters were counted
pub record Counted (before : List ℕ) (line column i : ℕ) : Type 0 where
  pub lines : line + feeds (drop i before) ≡ 1 + feeds before
  pub columns : column_from column (drop i before) ≡ column_from 1 before
  pub line_most : line ≤ i + 1
  pub column_most : column ≤ i + 1

pub counted_none : (before : List ℕ) → Counted before 1 1 0
counted_none before = record { lines = refl; columns = refl; line_most = omega arith; column_most = omega arith }

module _ (before : List ℕ) (line column i : ℕ) (k : Counted before line column i) (h : i < length before) where
  pub counted_feed : get_or before i 0 ≡ 10 → Counted before (line + 1) 1 (i + 1)
  counted_feed e =
      let one : feeds (drop i before) ≡ 1 + feeds (drop (i + 1) before) = ap feeds (drop_next before i h) ∙ feeds_feed _ _ e in
      record {
        lines = omega (arith, one, k.lines);
        columns = sym (ap (column_from column) (drop_next before i h) ∙ column_feed _ _ column e) ∙ k.columns;
        line_most = omega (arith, k.line_most);
        column_most = omega arith;
      }

  pub counted_other : (get_or before i 0 ≡ 10 → ⊥) → Counted before line (column + 1) (i + 1)
  counted_other n =
      let one : feeds (drop i before) ≡ feeds (drop (i + 1) before) = ap feeds (drop_next before i h) ∙ feeds_other _ _ n in
      record {
        lines = omega (arith, one, k.lines);
        columns = sym (ap (column_from column) (drop_next before i h) ∙ column_other _ _ column n) ∙ k.columns;
        line_most = omega (arith, k.line_most);
        column_most = omega (arith, k.column_most);
      }

pub counted_all : (before : List ℕ) (line column i : ℕ) → Counted before line column i → length before ≤ i → (file : List ℕ) (place : ℕ) → before ≡ take place file
    → ◌≡◌ {A = Position} (record { line = line; column = column }) (position file place)
unfolding feeds column_from position
counted_all before line column i k h file place e =
    let none : drop i before ≡ [] = drop_of_length-le before h in
    let same : line ≡ 1 + feeds before = sym (add-zero line) ∙ sym (ap (λ (l : List ℕ). line + feeds l) none) ∙ k.lines in
    ap₂ (λ (x y : ℕ). record { line = x; column = y }) (same ∙ ap (λ (l : List ℕ). 1 + feeds l) e) (sym (ap (column_from column) none) ∙ k.columns ∙ ap (column_from 1) e)
