-- The law of refusals: the answer is n just where rule n holds and no earlier one does, and 0 just where none holds.
-- Assumes nothing.
use mathlib.Core.Path.{◌≡◌, refl, sym, ap, ◌∙◌, subst}
use mathlib.Core.Bool.{Bool, true, false, ◌&&◌, ◌||◌}
use mathlib.Core.List.{List, [], ◌∷◌, ◌++◌}
use Prim.Native.Nat.{ℕ, zero, suc}
use native.Mathlib.Omega.{arith}
use lib.Dec.{T, eqb}
use borrow.Author.Tests.{eqb-true}
use Rattle.std.specs.Prelude.{cond}
use Rattle.wire.specs.Numbered.{refusals, has_number, with_number, number_of, refusal}
use Rattle.wire.specs.declared.refusals.Refusal.TheVariants.{NobodyDue}
use Rattle.wire.specs.declared.refusals.Refusal.{Refusal}
use Rattle.wire.proofs.Bools.{T_both, both_T}
use Rattle.wire.specs.Refusal.{Rule, ◌when◌, pick, first, asked_if, NoneHolds, FirstIs, numbered, named, FirstInOrder}

pub first_skips : (rs ss : List Rule) → NoneHolds rs → first (rs ++ ss) ≡ first ss
unfolding pick
first_skips [] ss h = refl
first_skips ((n when b) ∷ rs) ss h = rw h.0 (first_skips rs ss h.1)

pub first_none : (rs : List Rule) → NoneHolds rs → first rs ≡ 0
unfolding pick
first_none [] h = refl
first_none ((n when b) ∷ rs) h = rw h.0 (first_none rs h.1)

pub none_first : (rs : List Rule) → T (numbered rs) → first rs ≡ 0 → NoneHolds rs
unfolding pick
none_first [] t e = tt
none_first ((zero when b) ∷ rs) t e = absurd t
none_first ((suc n when true) ∷ rs) t e = absurd (omega arith)
none_first ((suc n when false) ∷ rs) t e = (refl, none_first rs t e)

pub first_is : (rs : List Rule) (n : ℕ) → FirstIs rs n → first rs ≡ n
unfolding pick
first_is rs n h = ap first h.2 ∙ first_skips h.0 ((n when true) ∷ h.1) h.3

pub is_first : (rs : List Rule) (n : ℕ) → first rs ≡ suc n → FirstIs rs (suc n)
unfolding pick
is_first [] n e = absurd (omega arith)
is_first ((m when true) ∷ rs) n e = ([], rs, ap (λ (k : ℕ). (k when true) ∷ rs) e, tt)
is_first ((m when false) ∷ rs) n e =
    let more = is_first rs n e in
    ((m when false) ∷ more.0, more.1, ap (λ (l : List Rule). (m when false) ∷ l) more.2, (refl, more.3))

-- two stretches of rules
pub numbered_append : (rs ss : List Rule) → T (numbered rs) → T (numbered ss) → T (numbered (rs ++ ss))
numbered_append [] ss t u = u
numbered_append ((zero when b) ∷ rs) ss t u = absurd t
numbered_append ((suc n when b) ∷ rs) ss t u = numbered_append rs ss t u

pub named_append : (rs ss : List Rule) → T (named rs) → T (named ss) → T (named (rs ++ ss))
named_append [] ss t u = u
named_append ((n when b) ∷ rs) ss t u =
    let of = T_both (has_number n refusals) (named rs) t in
    both_T (has_number n refusals) (named (rs ++ ss)) of.0 (named_append rs ss of.1 u)

-- no refusal has the number 0
pub named_numbered : (rs : List Rule) → T (named rs) → T (numbered rs)
named_numbered [] t = tt
named_numbered ((zero when b) ∷ rs) t = absurd t
named_numbered ((suc n when b) ∷ rs) t = named_numbered rs (T_both (has_number (suc n) refusals) (named rs) t).1

pub none_append : (rs ss : List Rule) → NoneHolds (rs ++ ss) → NoneHolds rs × NoneHolds ss
none_append [] ss h = (tt, h)
none_append ((n when b) ∷ rs) ss h =
    let more = none_append rs ss h.1 in
    ((h.0, more.0), more.1)

-- what a first stretch of rules refuses, the whole refuses
pub first_hits : (rs ss : List Rule) → (first rs ≡ 0 → ⊥) → first (rs ++ ss) ≡ first rs
unfolding pick
first_hits [] ss h = absurd (h refl)
first_hits ((n when true) ∷ rs) ss h = refl
first_hits ((n when false) ∷ rs) ss h = first_hits rs ss h

-- and where the first stretch is judged by itself, with the answer n, the whole is judged so
pub found : (rs ss : List Rule) (n : ℕ) → n ≡ first rs → (n ≡ 0 → ⊥) → n ≡ first (rs ++ ss)
found rs ss n e some = e ∙ sym (first_hits rs ss (λ z. some (e ∙ z)))

pub passed : (rs ss : List Rule) → T (numbered rs) → (n k : ℕ) → n ≡ first rs → n ≡ 0 → k ≡ first ss → k ≡ first (rs ++ ss)
passed rs ss t n k e z h = h ∙ sym (first_skips rs ss (none_first rs t (sym e ∙ z)))

pub none_both : (rs ss : List Rule) → NoneHolds rs → NoneHolds ss → NoneHolds (rs ++ ss)
none_both [] ss h k = k
none_both ((n when b) ∷ rs) ss h k = (h.0, none_both rs ss h.1 k)

pub refusal_law : (rs : List Rule) → T (numbered rs) → FirstInOrder rs (first rs)
refusal_law rs t = ((λ n. (is_first rs n, first_is rs (suc n))), none_first rs t, first_none rs)

-- the number of the refusal n is n, where n is that of one
with_its_number : (n : ℕ) (last : Refusal) (rs : List Refusal) → T (has_number n rs) → number_of (with_number n last rs) ≡ n
with_its_number n last [] t = absurd t
with_its_number n last (r ∷ rs) t = of (eqb (number_of r) n) refl t (with_its_number n last rs)
  where
    of : (b : Bool) → eqb (number_of r) n ≡ b → T (b || has_number n rs) → (T (has_number n rs) → number_of (with_number n last rs) ≡ n) → number_of (cond b r (with_number n last rs)) ≡ n
    of true e u more = eqb-true (number_of r) n e
    of false e u more = more u

-- so of the first rule that holds
pub first_named : (rs : List Rule) → T (named rs) → (first rs ≡ 0 → ⊥) → number_of (refusal (first rs)) ≡ first rs
unfolding pick refusal
first_named [] t some = absurd (some refl)
first_named ((n when true) ∷ rs) t some = with_its_number n NobodyDue refusals (T_both (has_number n refusals) (named rs) t).0
first_named ((n when false) ∷ rs) t some = first_named rs (T_both (has_number n refusals) (named rs) t).1 some

-- the same of the number that is told
pub in_order : (rs : List Rule) (told : ℕ) → T (numbered rs) → first rs ≡ told → FirstInOrder rs told
in_order rs told t e = subst (FirstInOrder rs) e (refusal_law rs t)

-- ---- rules that are asked only where b holds
pub asked : (b : Bool) (rs : List Rule) → b ≡ true → first (asked_if b rs) ≡ first rs
asked b rs e = ap (λ (x : Bool). first (asked_if x rs)) e ∙ all rs
  where
    all : (rs : List Rule) → first (asked_if true rs) ≡ first rs
    all [] = refl
    all ((n when c) ∷ rs) = ap (pick c n) (all rs)

pub unasked : (b : Bool) (rs : List Rule) → b ≡ false → NoneHolds (asked_if b rs)
unasked b [] e = tt
unasked b ((n when c) ∷ rs) e = (ap (λ (x : Bool). x && c) e, unasked b rs e)

-- ---- for the code, which asks one condition after another: r is what a function answered that tests b. `search (hit, skip) depth 12`
-- proves from these what a `return` owes
pub hit : (r b : Bool) (n m : ℕ) → r ≡ b → r ≡ true → n ≡ pick b n m
unfolding pick
hit r b n m e t = sym (ap (λ (x : Bool). pick x n m) (sym e ∙ t))

pub skip : (r b : Bool) (n m k : ℕ) → r ≡ b → r ≡ false → k ≡ m → k ≡ pick b n m
unfolding pick
skip r b n m k e t h = h ∙ sym (ap (λ (x : Bool). pick x n m) (sym e ∙ t))
