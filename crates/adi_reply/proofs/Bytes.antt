-- The bytes of groups and what they say, one group and all of them: written and read again, and read and written again.
-- Assumes nothing.
use mathlib.Core.Path.{◌≡◌, refl, sym, ap, ap₂, ◌∙◌, subst}
use mathlib.Core.Bool.{false}
use mathlib.Core.List.{List, [], ◌∷◌, ◌++◌, map}
use Prim.Native.Nat.{ℕ, zero, suc, ◌+◌, ◌≤◌}
use native.Mathlib.Numerals.{add-one}
use native.Mathlib.Omega.{arith}
use lib.ListN.{length, take, drop, length-append, length-drop, take-append-drop}
use lib.Seq.{take_at, drop_at, length-take-le}
use borrow.Author.Tests.{ltb-false, eqb-true, not-false, le-ltb}
use Rattle.wire.specs.InTurn.{Faultless}
use Rattle.wire.proofs.Bools.{or_neither, neither_or}
use Rattle.adi.specs.Groups.{starts, groups, at_place}
use Rattle.adi.proofs.Groups.{starts_drop}
use Rattle.adi_reply.specs.Layout.{registers_of, typed, group_bytes, body_bytes}
use Rattle.adi_reply.specs.Reading.{not_even_from2, group_rules}
use Rattle.adi_reply.specs.Writing.{cut, total, length_rules}
use Rattle.adi_reply.specs.Promise.{joined}

-- what follows a group of n register bytes
groups_after : (n t : ℕ) (d : List ℕ) → groups typed (n ∷ t ∷ d) ≡ (n ∷ t ∷ d) ∷ groups typed (drop n d)
unfolding starts
groups_after n t d =
    ap (λ (gs : List (List ℕ)). (n ∷ t ∷ d) ∷ gs) (starts_drop typed (n + 1) (t ∷ d) ∙ ap (λ (k : ℕ). groups typed (drop k (t ∷ d))) (add-one n))

-- ---- one group that is written, with the bytes after it
module _ (r rest : List ℕ) where
  groups_written : groups typed (group_bytes r ++ rest) ≡ (group_bytes r ++ rest) ∷ groups typed rest
  unfolding group_bytes
  groups_written =
      groups_after (length r) 6 (r ++ rest)
      ∙ ap (λ (l : List ℕ). (length r ∷ 6 ∷ (r ++ rest)) ∷ groups typed l) (drop_at r rest (length r) refl)

  registers_back : registers_of (group_bytes r ++ rest) ≡ r
  unfolding group_bytes
  registers_back = take_at r rest (length r) refl

  good_back : not_even_from2 (length r) ≡ false → Faultless group_rules ((group_bytes r ++ rest) ∷ [])
  unfolding group_bytes
  good_back e =
      let fits : length r + 2 ≤ length (group_bytes r ++ rest) = omega (arith, length-append r rest) in
      ((refl, (neither_or (not_even_from2 (length r)) _ e (le-ltb _ _ fits), tt)), tt)

-- ---- all of them
pub body_count : (rs : List (List ℕ)) → length (groups typed (body_bytes rs)) ≡ length rs
unfolding body_bytes starts
body_count [] = refl
body_count (r ∷ rs) = ap length (groups_written r (body_bytes rs)) ∙ ap suc (body_count rs)

pub body_faultless : (rs : List (List ℕ)) → Faultless length_rules (map length rs) → Faultless group_rules (groups typed (body_bytes rs))
unfolding body_bytes starts
body_faultless [] f = tt
body_faultless (r ∷ rs) f =
    subst (Faultless group_rules) (sym (groups_written r (body_bytes rs))) ((good_back r (body_bytes rs) f.0.0).0, body_faultless rs f.1)

pub body_each : (rs : List (List ℕ)) (place : ℕ) → registers_of (at_place [] (groups typed (body_bytes rs)) place) ≡ at_place [] rs place
unfolding body_bytes starts
body_each rs zero = refl
body_each [] (suc k) = refl
body_each (r ∷ rs) (suc zero) =
    ap (λ (gs : List (List ℕ)). registers_of (at_place [] gs 1)) (groups_written r (body_bytes rs)) ∙ registers_back r (body_bytes rs)
body_each (r ∷ rs) (suc (suc k)) =
    ap (λ (gs : List (List ℕ)). registers_of (at_place [] gs (suc (suc k)))) (groups_written r (body_bytes rs)) ∙ body_each rs (suc k)

-- ---- groups that are read, written again: m bytes at most are left
again : (m : ℕ) (d : List ℕ) → length d ≤ m → Faultless group_rules (groups typed d) → body_bytes (map registers_of (groups typed d)) ≡ d
unfolding starts body_bytes group_bytes
again zero [] h f = refl
again zero (n ∷ d) h f = absurd (omega arith)
again (suc m) [] h f = refl
again (suc m) (n ∷ []) h f = absurd (let z : 0 ≡ 6 = eqb-true 0 6 (not-false _ f.0.0) in omega arith)
again (suc m) (n ∷ t ∷ d) h f =
    let after = groups_after n t d in
    let here : Faultless group_rules ((n ∷ t ∷ d) ∷ groups typed (drop n d)) = subst (Faultless group_rules) after f in
    let is-six : t ≡ 6 = eqb-true t 6 (not-false _ here.0.0) in
    let within : n + 2 ≤ length (n ∷ t ∷ d) = ltb-false _ _ (or_neither (not_even_from2 n) _ here.0.1.0).1 in
    let fits : n ≤ length d = omega (arith, within) in
    let more = again m (drop n d) (omega (arith, length-drop n d)) here.1 in
    ap (λ (gs : List (List ℕ)). body_bytes (map registers_of gs)) after
    ∙ ap₂ (λ (k : ℕ) (l : List ℕ). k ∷ 6 ∷ (take n d ++ l)) (length-take-le n d fits) more
    ∙ ap₂ (λ (x : ℕ) (l : List ℕ). n ∷ x ∷ l) (sym is-six) (take-append-drop n d)

pub body_again : (d : List ℕ) → Faultless group_rules (groups typed d) → body_bytes (map registers_of (groups typed d)) ≡ d
body_again d f = again (length d) d (omega arith) f

-- the writer finds no fault where the reader found none: a group has as many register bytes as its length says
pub again_good : (g : List ℕ) → Faultless group_rules (g ∷ []) → Faultless length_rules (length (registers_of g) ∷ [])
again_good [] f = absurd (let z : 0 ≡ 6 = eqb-true 0 6 (not-false _ f.0.0) in omega arith)
again_good (n ∷ []) f = absurd (let z : 0 ≡ 6 = eqb-true 0 6 (not-false _ f.0.0) in omega arith)
again_good (n ∷ t ∷ d) f =
    let p = or_neither (not_even_from2 n) _ f.0.1.0 in
    let within : n + 2 ≤ length (n ∷ t ∷ d) = ltb-false _ _ p.1 in
    let fits : n ≤ length d = omega (arith, within) in
    ((ap not_even_from2 (length-take-le n d fits) ∙ p.0, tt), tt)

pub again_faultless : (gs : List (List ℕ)) → Faultless group_rules gs → Faultless length_rules (map length (map registers_of gs))
again_faultless [] f = tt
again_faultless (g ∷ gs) f = ((again_good g (f.0, tt)).0, again_faultless gs f.1)

-- groups are those that stand at their places
pub each_is : (gs rs : List (List ℕ)) → length gs ≡ length rs → ((place : ℕ) → registers_of (at_place [] gs place) ≡ at_place [] rs place) → map registers_of gs ≡ rs
each_is [] [] e h = refl
each_is [] (r ∷ rs) e h = absurd (omega arith)
each_is (g ∷ gs) [] e h = absurd (omega arith)
each_is (g ∷ gs) (r ∷ rs) e h = ap₂ (λ (x : List ℕ) (l : List (List ℕ)). x ∷ l) (h 1) (each_is gs rs (omega arith) (λ place. later place))
  where
    later : (place : ℕ) → registers_of (at_place [] gs place) ≡ at_place [] rs place
    later zero = refl
    later (suc k) = h (suc (suc k))

-- ---- register bytes cut by their lengths, and joined
pub cut_lengths : (ns registers : List ℕ) → total ns ≡ length registers → map length (cut ns registers) ≡ ns
unfolding cut total
cut_lengths [] registers e = refl
cut_lengths (n ∷ ns) registers e =
    ap₂ (λ (x : ℕ) (l : List ℕ). x ∷ l) (length-take-le n registers (omega arith)) (cut_lengths ns (drop n registers) (omega (arith, length-drop n registers)))

pub cut_joined : (rs : List (List ℕ)) → cut (map length rs) (joined rs) ≡ rs
unfolding cut
cut_joined [] = refl
cut_joined (r ∷ rs) =
    ap₂ (λ (x : List ℕ) (l : List (List ℕ)). x ∷ l) (take_at r (joined rs) (length r) refl)
    (ap (cut (map length rs)) (drop_at r (joined rs) (length r) refl) ∙ cut_joined rs)

pub joined_total : (rs : List (List ℕ)) → total (map length rs) ≡ length (joined rs)
unfolding total
joined_total [] = refl
joined_total (r ∷ rs) = ap (λ (k : ℕ). length r + k) (joined_total rs) ∙ sym (length-append r (joined rs))
