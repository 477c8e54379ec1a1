-- Groups that follow one another: the one at a place of the bytes and those after it; judged, found and counted one after another; and groups of one size.
-- Assumes nothing.
use mathlib.Core.Path.{◌≡◌, refl, sym, ap, ap₂, ◌∙◌}
use mathlib.Core.List.{List, [], ◌∷◌}
use Prim.Native.Nat.{ℕ, zero, suc, ◌+◌, ◌*◌, ◌-◌, ◌≤◌, ◌<◌}
use native.Mathlib.Nat.{suc-add, suc-mul, zero-mul, add_comm}
use native.Mathlib.Omega.{arith}
use lib.Dec.{T}
use lib.ListN.{length, get_or, drop, drop_of_length-le, length-drop}
use lib.Seq.{drop-cons, drop-drop, drop-nil}
use Rattle.wire.specs.InTurn.{in_turn}
use Rattle.wire.specs.Refusal.{Rule, first, numbered}
use Rattle.wire.proofs.InTurn.{turn_decides, turn_passes}
use Rattle.adi.specs.Groups.{starts, groups}

-- bytes that are passed over may as well not be there
pub starts_drop : (more : ℕ → ℕ) (k : ℕ) (s : List ℕ) → starts more k s ≡ groups more (drop k s)
unfolding starts
starts_drop more zero s = refl
starts_drop more (suc k) [] = refl
starts_drop more (suc k) (b ∷ s) = starts_drop more k s

module _ (more : ℕ → ℕ) (s : List ℕ) (at : ℕ) where
  -- what is left begins with a group, where anything is left
  groups_next : at < length s → (to : ℕ) → to ≡ at + (more (get_or s at 0) + 1) → groups more (drop at s) ≡ drop at s ∷ groups more (drop to s)
  unfolding starts
  groups_next h to e =
      let b = get_or s at 0 in
      let here : drop at s ≡ b ∷ drop (suc at) s = drop-cons s at 0 h in
      let there : suc at + more b ≡ to = omega arith in
      ap (groups more) here
      ∙ ap₂ (λ (g : List ℕ) (gs : List (List ℕ)). g ∷ gs) (sym here)
      (starts_drop more (more b) (drop (suc at) s) ∙ ap (groups more) (drop-drop (more b) (suc at) s ∙ ap (λ (k : ℕ). drop k s) there))

  groups_end : length s ≤ at → groups more (drop at s) ≡ []
  unfolding starts
  groups_end h = ap (groups more) (drop_of_length-le s {i = at} h)

  -- ---- judged: r is the answer for the group at `at`
  module _ (rules : List ℕ → List Rule) (good : (g : List ℕ) → T (numbered (rules g))) (h : at < length s) (r : ℕ) (e : r ≡ first (rules (drop at s))) where
    pub group_passes : (to : ℕ) → to ≡ at + (more (get_or s at 0) + 1) → r ≡ 0
        → first (in_turn rules (groups more (drop to s))) ≡ first (in_turn rules (groups more (drop at s)))
    group_passes to et z =
        sym (ap (λ (gs : List (List ℕ)). first (in_turn rules gs)) (groups_next h to et)
        ∙ turn_passes rules good (drop at s) (groups more (drop to s)) r e z)

    pub group_decides : (r ≡ 0 → ⊥) → r ≡ first (in_turn rules (groups more (drop at s)))
    group_decides some =
        let to = at + (more (get_or s at 0) + 1) in
        turn_decides rules good (drop at s) (groups more (drop to s)) r e some
        ∙ sym (ap (λ (gs : List (List ℕ)). first (in_turn rules gs)) (groups_next h to refl))

  pub groups_pass : (rules : List ℕ → List Rule) → length s ≤ at → first (in_turn rules (groups more (drop at s))) ≡ 0
  unfolding in_turn
  groups_pass rules h = ap (λ (gs : List (List ℕ)). first (in_turn rules gs)) (groups_end h)

  -- ---- found: `left` groups stand before the one that is looked for
  pub group_later : at < length s → (to : ℕ) → to ≡ at + (more (get_or s at 0) + 1) → (left : ℕ) → (left ≡ 0 → ⊥)
      → get_or (groups more (drop to s)) (left - 1) [] ≡ get_or (groups more (drop at s)) left []
  group_later h to e zero some = absurd (some refl)
  group_later h to e (suc left) some =
      let less : suc left - 1 ≡ left = omega arith in
      ap (λ (k : ℕ). get_or (groups more (drop to s)) k []) less
      ∙ sym (ap (λ (gs : List (List ℕ)). get_or gs (suc left) []) (groups_next h to e))

  pub group_nowhere : length s ≤ at → (left : ℕ) → drop at s ≡ get_or (groups more (drop at s)) left []
  group_nowhere h left = drop_of_length-le s {i = at} h ∙ sym (ap (λ (gs : List (List ℕ)). get_or gs left []) (groups_end h))

  -- ---- counted: n groups stand before `at`
  pub count_next : at < length s → (to : ℕ) → to ≡ at + (more (get_or s at 0) + 1) → (n : ℕ)
      → n + 1 + length (groups more (drop to s)) ≡ n + length (groups more (drop at s))
  count_next h to e n = let l = ap length (groups_next h to e) in omega (arith, l)

  pub count_end : length s ≤ at → (n : ℕ) → n + length (groups more (drop at s)) ≡ n
  count_end h n = let l = ap length (groups_end h) in omega (arith, l)

-- ---- groups of one size: as many as the size goes into the bytes, and each stands where those before it end
module _ (w : ℕ) where
  pub group_of_size : (s : List ℕ) (k : ℕ) → get_or (groups (λ _. w) s) k [] ≡ drop (k * suc w) s
  unfolding starts
  group_of_size [] zero = sym (ap (λ (j : ℕ). drop j []) (zero-mul (suc w)))
  group_of_size (b ∷ s) zero = sym (ap (λ (j : ℕ). drop j (b ∷ s)) (zero-mul (suc w)))
  group_of_size [] (suc k) = sym (drop-nil (suc k * suc w))
  group_of_size (b ∷ s) (suc k) =
      let e : suc (w + k * suc w) ≡ suc k * suc w = sym (suc-mul k (suc w) ∙ add_comm (k * suc w) (suc w) ∙ suc-add w (k * suc w)) in
      ap (λ (gs : List (List ℕ)). get_or gs k []) (starts_drop (λ _. w) w s)
      ∙ group_of_size (drop w s) k
      ∙ drop-drop (k * suc w) w s
      ∙ ap (λ (j : ℕ). drop j (b ∷ s)) e

  pub count_of_size : (m : ℕ) (s : List ℕ) → length s ≡ m * suc w → length (groups (λ _. w) s) ≡ m
  unfolding starts
  count_of_size zero [] e = refl
  count_of_size zero (b ∷ s) e = absurd (let z : suc (length s) ≡ 0 = e ∙ zero-mul (suc w) in omega arith)
  count_of_size (suc m) [] e = absurd (let z : 0 ≡ m * suc w + suc w = e ∙ suc-mul m (suc w) in omega arith)
  count_of_size (suc m) (b ∷ s) e =
      let z : suc (length s) ≡ m * suc w + suc w = e ∙ suc-mul m (suc w) in
      let left : length (drop w s) ≡ m * suc w = length-drop w s ∙ omega arith in
      ap (λ (gs : List (List ℕ)). suc (length gs)) (starts_drop (λ _. w) w s) ∙ ap suc (count_of_size m (drop w s) left)
