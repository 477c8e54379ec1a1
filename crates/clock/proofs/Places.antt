-- Numbers in places that stand in a row, and the order of lists that says which of two is less.
-- Assumes nothing.
use mathlib.Core.Path.{◌≡◌, refl, sym, ap, ap₂, ◌∙◌}
use mathlib.Core.Bool.{Bool, true, false, ◌&&◌, ◌||◌}
use mathlib.Core.List.{List, [], ◌∷◌}
use Prim.Native.Nat.{ℕ, zero, suc, ◌+◌, ◌-◌, ◌≤◌, ◌<◌}
use native.Mathlib.Omega.{arith}
use lib.Dec.{ltb, eqb}
use lib.ListN.{length}
use borrow.Author.Tests.{ltb-true, ltb-false, eqb-true, eqb-false, eq-eqb, lt-ltb, le-ltb}
use Rattle.wire.proofs.Bools.{or_neither}
use Rattle.clock.specs.Seconds.{is_before}

-- what stands behind the same
behind : (a b u v : ℕ) → a ≡ b → ltb (a + u) (b + v) ≡ ltb u v
behind a b u v e = go (ltb u v) refl
  where
    go : (t : Bool) → ltb u v ≡ t → ltb (a + u) (b + v) ≡ t
    go true h = let less = ltb-true u v h in lt-ltb (a + u) (b + v) (omega arith)
    go false h = let least = ltb-false u v h in le-ltb (a + u) (b + v) (omega arith)

-- places in a row: place n begins at f n
module _ (f : ℕ → ℕ) (rises : (n : ℕ) → f n ≤ f (suc n)) where
  climbs : (k m n : ℕ) → k + m ≡ n → f m ≤ f n
  climbs zero m n e = let same : f m ≡ f n = ap f (omega arith) in omega arith
  climbs (suc k) m n e =
      let before = climbs k m (k + m) refl in
      let last : f (suc (k + m)) ≡ f n = ap f (omega arith) in
      omega (arith, rises (k + m))

  pub never_falls : (m n : ℕ) → m ≤ n → f m ≤ f n
  never_falls m n h = climbs (n - m) m n (omega arith)

  -- of two numbers, each in its place, the one in the earlier place is less, and in the same place what stands behind its beginning says it
  pub ordered : (m n u v : ℕ) (rest : Bool) → f m + u < f (suc m) → f n + v < f (suc n) → (m ≡ n → ltb u v ≡ rest)
      → ltb (f m + u) (f n + v) ≡ (ltb m n || (eqb m n && rest))
  ordered m n u v rest hm hn same = go (ltb m n) (eqb m n) refl refl
    where
      go : (l q : Bool) → ltb m n ≡ l → eqb m n ≡ q → ltb (f m + u) (f n + v) ≡ (l || (q && rest))
      go true q el eq = let next = never_falls (suc m) n (ltb-true m n el) in lt-ltb (f m + u) (f n + v) (omega arith)
      go false true el eq = let e = eqb-true m n eq in behind (f m) (f n) u v (ap f e) ∙ same e
      go false false el eq =
          let other = eqb-false m n eq in
          let least = ltb-false m n el in
          let next = never_falls (suc n) m (omega arith) in
          le-ltb (f m + u) (f n + v) (omega arith)

-- nothing stands behind the last number
pub alone : (l q : Bool) → l ≡ (l || (q && false))
alone true q = refl
alone false true = refl
alone false false = refl

-- of two numbers neither is before the other: they are the same, and so of what stands behind them
neither : (x y : ℕ) (r r' : Bool) → (ltb x y || (eqb x y && r)) ≡ false → (ltb y x || (eqb y x && r')) ≡ false → (x ≡ y) × (r ≡ false) × (r' ≡ false)
neither x y r r' e e' =
    let u = or_neither (ltb x y) (eqb x y && r) e in
    let v = or_neither (ltb y x) (eqb y x && r') e' in
    let least = ltb-false x y u.0 in
    let most = ltb-false y x v.0 in
    let same : x ≡ y = omega arith in
    (same, sym (ap (λ (q : Bool). q && r) (eq-eqb x y same)) ∙ u.1, sym (ap (λ (q : Bool). q && r') (eq-eqb y x (sym same))) ∙ v.1)

pub neither_before : (xs ys : List ℕ) → length xs ≡ length ys → is_before xs ys ≡ false → is_before ys xs ≡ false → xs ≡ ys
neither_before [] [] l e e' = refl
neither_before [] (y ∷ ys) l e e' = absurd (omega arith)
neither_before (x ∷ xs) [] l e e' = absurd (omega arith)
neither_before (x ∷ xs) (y ∷ ys) l e e' =
    let n = neither x y (is_before xs ys) (is_before ys xs) e e' in
    ap₂ (λ (z : ℕ) (zs : List ℕ). z ∷ zs) n.0 (neither_before xs ys (omega arith) n.1 n.2)
