-- Searches among the slots, over the test: what a loop has left to look at, what a search finds, and that it overlooks none.
-- Assumes nothing.
use mathlib.Core.Path.{◌≡◌, refl, sym, ap, ◌∙◌}
use mathlib.Core.Logic.{◌⊎◌, inl, inr, ⊎_elim}
use mathlib.Core.Bool.{Bool, true, false, not}
use mathlib.Core.List.{◌∷◌}
use Prim.Native.Nat.{ℕ, zero, suc, ◌+◌, ◌-◌, ◌%◌, ◌<◌, ◌≤◌}
use native.Mathlib.Omega.{arith}
use lib.Dec.{eqb}
use borrow.Author.Tests.{eqb-true, eqb-false, eq-eqb, ne_eqb, not-false}
use Rattle.wire.specs.Refusal.{pick}
use Rattle.turns.specs.Table.{IsSlot, after, onward, round, slots, first_of, some}

-- ---- going round
pub same_way : (k j n : ℕ) → k % 32 ≡ j % 32 → onward k n ≡ onward j n
unfolding onward
same_way k j zero e = refl
same_way k j (suc n) e = ap (λ (i : ℕ). (i + 1) ∷ onward (i + 1) n) e

-- n steps on from slot k
unfoldable pub steps : ℕ → ℕ → ℕ
steps zero k = k
steps (suc n) k = steps n (after k)

steps_at : (n k : ℕ) → steps (suc n) k ≡ (k + n) % 32 + 1
unfolding steps
steps_at zero k = omega arith
steps_at (suc n) k = steps_at n (after k) ∙ omega arith

-- slot j is d + 1 steps on from slot k
pub record Ahead (d k j : ℕ) : Type 0 where
  pub way : steps (suc d) k ≡ j

-- every slot is reached from every slot within 32 steps
pub reached : (k j : ℕ) → IsSlot j → (d : ℕ) × (d < 32) × Ahead d k j
reached k j s =
    let d = (j + 31 - k % 32) % 32 in
    let e : (k + d) % 32 + 1 ≡ j = omega (arith, s.0, s.1) in
    (d, omega arith, record { way = steps_at d k ∙ e })

-- slot f is on the way of d + 1 steps from slot k to slot j, before j: `left` + 1 steps are left from it
pub record Between (d k f j : ℕ) : Type 0 where
  pub some : f ≡ 0 → ⊥
  pub left : ℕ
  pub less : left < d
  pub ahead : Ahead left f j

module _ (test : ℕ → Bool) where
  -- ---- for a loop: the first of the n slots left to look at is the first of all
  module _ (whole k n : ℕ) (e : first_of test (onward k n) ≡ whole) where
    pub found : 0 < n → test (after k) ≡ true → after k ≡ whole
    unfolding first_of onward pick
    found h t = go n e h
      where
        go : (n : ℕ) → first_of test (onward k n) ≡ whole → 0 < n → after k ≡ whole
        go zero e h = absurd (omega arith)
        go (suc n) e h = sym (ap (λ (b : Bool). pick b (after k) (first_of test (onward (after k) n))) t) ∙ e

    pub passed : (m : ℕ) → n ≡ suc m → test (after k) ≡ false → first_of test (onward (after k) m) ≡ whole
    unfolding first_of onward pick
    passed m h t =
        sym (ap (λ (b : Bool). pick b (after k) (first_of test (onward (after k) m))) t) ∙ sym (ap (λ (i : ℕ). first_of test (onward k i)) h) ∙ e

    pub none_left : n ≤ 0 → 0 ≡ whole
    unfolding first_of onward
    none_left h = ap (λ (i : ℕ). first_of test (onward k i)) (let z : 0 ≡ n = omega arith in z) ∙ e

  -- ---- what is found is a slot, and passes
  pub found_slot : (k n : ℕ) → (first_of test (onward k n) ≡ 0 → ⊥) → IsSlot (first_of test (onward k n)) × (test (first_of test (onward k n)) ≡ true)
  unfolding first_of onward pick
  found_slot k zero h = absurd (h refl)
  found_slot k (suc n) h = go (test (after k)) refl h (found_slot (after k) n)
    where
      rest : ℕ
      rest = first_of test (onward (after k) n)

      go : (b : Bool) → test (after k) ≡ b → (pick b (after k) rest ≡ 0 → ⊥) → ((rest ≡ 0 → ⊥) → IsSlot rest × (test rest ≡ true))
          → IsSlot (pick b (after k) rest) × (test (pick b (after k) rest) ≡ true)
      go true e h more = ((omega arith, omega arith), e)
      go false e h more = more h

  -- where no slot passes, none is found
  pub none_found : (k n : ℕ) → ((j : ℕ) → IsSlot j → test j ≡ false) → first_of test (onward k n) ≡ 0
  unfolding first_of onward pick
  none_found k zero h = refl
  none_found k (suc n) h =
      ap (λ (b : Bool). pick b (after k) (first_of test (onward (after k) n))) (h (after k) (omega arith, omega arith)) ∙ none_found (after k) n h

  -- where a slot j that passes is ahead, what is found is j or a slot on the way there
  pub on_the_way : (d n k j : ℕ) → Ahead d k j → test j ≡ true → d < n → (first_of test (onward k n) ≡ j) ⊎ Between d k (first_of test (onward k n)) j
  unfolding first_of onward pick steps
  on_the_way d zero k j w t h = absurd (omega arith)
  on_the_way zero (suc n) k j w t h = inl (ap (λ (b : Bool). pick b (after k) (first_of test (onward (after k) n))) (ap test w.way ∙ t) ∙ w.way)
  on_the_way (suc d) (suc n) k j w t h = go (test (after k)) (on_the_way d n (after k) j (record { way = w.way }) t (omega arith))
    where
      rest : ℕ
      rest = first_of test (onward (after k) n)

      go : (b : Bool) → (rest ≡ j) ⊎ Between d (after k) rest j → (pick b (after k) rest ≡ j) ⊎ Between (suc d) k (pick b (after k) rest) j
      go true more = inr (record { some = λ z. absurd (omega arith); left = d; less = omega arith; ahead = record { way = w.way } })
      go false more =
          ⊎_elim (λ (e : rest ≡ j). inl e)
          (λ (m : Between d (after k) rest j). inr (record { some = m.some; left = m.left; less = omega (arith, m.less); ahead = m.ahead }))
          more

  -- ---- going round, a slot that passes is never overlooked
  pub some_found : (k j : ℕ) → IsSlot j → test j ≡ true → first_of test (round k) ≡ 0 → ⊥
  some_found k j s t z =
      let r = reached k j s in
      ⊎_elim (λ (e : first_of test (round k) ≡ j). let o : j ≡ 0 = sym e ∙ z in absurd (omega (arith, s.0)))
      (λ (m : Between r.0 k (first_of test (round k)) j). m.some z)
      (on_the_way r.0 32 k j r.2 t r.1)

  pub none_passes : (k : ℕ) → first_of test (round k) ≡ 0 → (j : ℕ) → IsSlot j → test j ≡ false
  none_passes k z j s = go (test j) refl
    where
      go : (b : Bool) → test j ≡ b → test j ≡ false
      go true e = absurd (some_found k j s e z)
      go false e = e

  -- whether there is one does not depend on where the search begins
  pub some_is : (k : ℕ) → not (eqb (first_of test (round k)) 0) ≡ some test
  unfolding some
  some_is k = go (eqb (first_of test slots) 0) refl
    where
      go : (b : Bool) → eqb (first_of test slots) 0 ≡ b → not (eqb (first_of test (round k)) 0) ≡ not b
      go true e = ap not (eq-eqb _ _ (none_found k 32 (none_passes 32 (eqb-true _ _ e))))
      go false e =
          let f = found_slot 32 32 (eqb-false _ _ e) in
          ap not (ne_eqb _ _ (some_found k (first_of test slots) f.0 f.1))

  -- "no slot passes", said of each slot
  pub none_is : some test ≡ false → (j : ℕ) → IsSlot j → test j ≡ false
  unfolding some
  none_is e = none_passes 32 (eqb-true _ _ (not-false _ e))

  pub is_none : ((j : ℕ) → IsSlot j → test j ≡ false) → some test ≡ false
  unfolding some
  is_none h = ap not (eq-eqb _ _ (none_found 32 32 h))

  -- and where one does, there is one
  pub is_some : (j : ℕ) → IsSlot j → test j ≡ true → some test ≡ true
  unfolding some
  is_some j s t = ap not (ne_eqb _ _ (some_found 32 j s t))

  -- what the first slot that passes tells, and that there is none
  pub found_some : (k : ℕ) → k + 1 ≡ first_of test slots → true ≡ some test
  unfolding some
  found_some k e = sym (ap not (ne_eqb _ _ (λ (z : first_of test slots ≡ 0). let o : k + 1 ≡ 0 = e ∙ z in absurd (omega arith))))

  pub none_some : 0 ≡ first_of test slots → false ≡ some test
  unfolding some
  none_some e = sym (ap not (eq-eqb _ _ (sym e)))

-- ---- a loop from slot 1 up to slot 32: k slots are looked at
pub next_up : (k : ℕ) → k < 32 → after k ≡ k + 1
next_up k h = omega arith

module _ (test : ℕ → Bool) (whole k : ℕ) (e : first_of test (onward k (32 - k)) ≡ whole) where
  pub found_up : k < 32 → test (k + 1) ≡ true → k + 1 ≡ whole
  found_up h t = sym (next_up k h) ∙ found test whole k (32 - k) e (omega arith) (ap test (next_up k h) ∙ t)

  pub passed_up : k < 32 → test (k + 1) ≡ false → first_of test (onward (k + 1) (32 - (k + 1))) ≡ whole
  passed_up h t =
      ap (λ (i : ℕ). first_of test (onward i (32 - (k + 1)))) (sym (next_up k h))
      ∙ passed test whole k (32 - k) e (32 - (k + 1)) (omega arith) (ap test (next_up k h) ∙ t)

  pub all_passed : 32 ≤ k → 0 ≡ whole
  all_passed h = none_left test whole k (32 - k) e (omega arith)
