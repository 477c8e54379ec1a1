-- A body cut into chunks of seven: each is a group's bytes, and says what the group says.
-- Assumes nothing.
use mathlib.Core.Path.{◌≡◌, refl, sym, ap, ◌∙◌}
use mathlib.Core.List.{List, [], ◌∷◌}
use Prim.Native.Nat.{ℕ, zero, suc, ◌+◌, ◌-◌, ◌*◌, ◌/◌, ◌%◌, ◌≤◌, ◌<◌}
use native.Mathlib.Nat.{zero-mul}
use native.Mathlib.Omega.{arith}
use lib.ListN.{length, get_or, take, drop}
use lib.Seq.{drop-drop}
use Rattle.std.specs.Prelude.{Result, Ok, Err}
use Rattle.std.specs.Simd.{first_chunks}
use Rattle.wire.specs.Answer.{judged}
use Rattle.wire.specs.InTurn.{in_turn}
use Rattle.wire.specs.Numbers.{field}
use Rattle.wire.specs.Refusal.{first}
use Rattle.wire.specs.declared.refusals.Refusal.{Refusal}
use Rattle.wire.proofs.Answer.{none_judged}
use Rattle.adi.specs.Groups.{groups}
use Rattle.adi.proofs.Groups.{group_passes, group_decides, groups_pass}
use Rattle.adi.proofs.Room.{some_judged}
use Rattle.adi_request.specs.Layout.{asked_of, six}
use Rattle.adi_request.specs.Reading.{group_rules}

-- nothing is asked of what stands behind the seven bytes
same_rules : (g : List ℕ) → group_rules (take 7 g) ≡ group_rules g
unfolding field
same_rules [] = refl
same_rules (t ∷ []) = refl
same_rules (t ∷ a ∷ []) = refl
same_rules (t ∷ a ∷ b ∷ []) = refl
same_rules (t ∷ a ∷ b ∷ i ∷ []) = refl
same_rules (t ∷ a ∷ b ∷ i ∷ j ∷ []) = refl
same_rules (t ∷ a ∷ b ∷ i ∷ j ∷ m ∷ []) = refl
same_rules (t ∷ a ∷ b ∷ i ∷ j ∷ m ∷ n ∷ g) = refl

same_asked : (g : List ℕ) → asked_of (take 7 g) ≡ asked_of g
unfolding field
same_asked [] = refl
same_asked (t ∷ []) = refl
same_asked (t ∷ a ∷ []) = refl
same_asked (t ∷ a ∷ b ∷ []) = refl
same_asked (t ∷ a ∷ b ∷ i ∷ []) = refl
same_asked (t ∷ a ∷ b ∷ i ∷ j ∷ []) = refl
same_asked (t ∷ a ∷ b ∷ i ∷ j ∷ m ∷ []) = refl
same_asked (t ∷ a ∷ b ∷ i ∷ j ∷ m ∷ n ∷ g) = refl

chunk_at : (m k : ℕ) (s : List ℕ) → k < m → get_or (first_chunks 7 m s) k [] ≡ take 7 (drop (k * 7) s)
chunk_at zero k s h = absurd (omega arith)
chunk_at (suc m) zero s h = ap (λ (j : ℕ). take 7 (drop j s)) (sym (zero-mul 7))
chunk_at (suc m) (suc k) s h =
    let e : 7 + k * 7 ≡ suc k * 7 = omega arith in
    chunk_at m k (drop 7 s) (omega arith) ∙ ap (take 7) (drop-drop (k * 7) 7 s ∙ ap (λ (j : ℕ). drop j s) e)

-- the chunk of those that code cuts
pub chunk_of : (chunks : List (List ℕ)) (s : List ℕ) (k : ℕ) → chunks ≡ first_chunks 7 (length s / 7) s → k < length s / 7 → get_or chunks k [] ≡ take 7 (drop (k * 7) s)
chunk_of chunks s k e h = ap (λ (l : List (List ℕ)). get_or l k []) e ∙ chunk_at (length s / 7) k s h

-- and what is asked for at a place, by the chunk of the body
pub chunk_asks : (s body chunk : List ℕ) (place : ℕ) → body ≡ drop 2 s → 1 ≤ place → chunk ≡ take 7 (drop ((place - 1) * 7) body)
    → asked_of chunk ≡ asked_of (drop (place * 7 - 5) s)
chunk_asks s body chunk place eb some e =
    let at : 2 + (place - 1) * 7 ≡ place * 7 - 5 = omega arith in
    ap asked_of e
    ∙ same_asked (drop ((place - 1) * 7) body)
    ∙ ap (λ (l : List ℕ). asked_of (drop ((place - 1) * 7) l)) eb
    ∙ ap asked_of (drop-drop ((place - 1) * 7) 2 s ∙ ap (λ (k : ℕ). drop k s) at)

-- ---- judged one after another: k of them were let through
module _ (s : List ℕ) (k : ℕ) (h : k < length s / 7) (chunk : List ℕ) (e : chunk ≡ take 7 (drop (k * 7) s)) where
  rules_at : first (group_rules chunk) ≡ first (group_rules (drop (k * 7) s))
  rules_at = ap (λ (g : List ℕ). first (group_rules g)) e ∙ ap first (same_rules (drop (k * 7) s))

  within : k * 7 < length s
  within = omega arith

  pub chunk_passes : ◌≡◌ {A = Result Unit Refusal} (Ok tt) (judged tt (first (group_rules chunk)))
      → first (in_turn group_rules (groups six (drop ((k + 1) * 7) s))) ≡ first (in_turn group_rules (groups six (drop (k * 7) s)))
  chunk_passes j =
      group_passes six s (k * 7) group_rules (λ g. tt) within 0 (sym (none_judged tt _ tt j) ∙ rules_at) ((k + 1) * 7) (omega arith) refl

  pub chunk_decides : (r : Refusal) → ◌≡◌ {A = Result Unit Refusal} (Err r) (judged tt (first (group_rules chunk)))
      → ◌≡◌ {A = Result Unit Refusal} (Err r) (judged tt (first (in_turn group_rules (groups six (drop (k * 7) s)))))
  chunk_decides r j =
      j
      ∙ ap (judged tt)
      (group_decides six s (k * 7) group_rules (λ g. tt) within _ rules_at (some_judged _ r j))

pub chunks_pass : (s : List ℕ) → length s % 7 ≡ 0 → (k : ℕ) → length s / 7 ≤ k → first (in_turn group_rules (groups six (drop (k * 7) s))) ≡ 0
chunks_pass s whole k h = groups_pass six s (k * 7) group_rules (omega arith)
