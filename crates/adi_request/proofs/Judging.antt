-- What a good byte count says: whole groups, and how many; and where each of them stands.
-- Assumes nothing.
use mathlib.Core.Path.{◌≡◌, refl, sym, ap, ◌∙◌}
use mathlib.Core.Bool.{Bool, true, false, ◌||◌, cond}
use mathlib.Core.List.{List, [], ◌∷◌}
use Prim.Native.Nat.{ℕ, zero, suc, ◌+◌, ◌-◌, ◌*◌, ◌/◌, ◌%◌, ◌≤◌, ◌<◌}
use native.Mathlib.Omega.{arith}
use lib.Dec.{T, eqb, ltb}
use lib.ListN.{length, get_or, drop, drop_of_length-le, length-drop, length-map}
use lib.Seq.{drop-drop}
use borrow.Author.Tests.{eqb-true, eqb-false, ltb-true, ltb-false, eq-eqb, lt-ltb, le-ltb, not-false}
use Rattle.std.specs.Prelude.{None, Some, Result, Ok, Err}
use Rattle.wire.specs.Refusal.{first, numbered, named}
use Rattle.wire.proofs.Bools.{or_neither}
use Rattle.wire.proofs.InTurn.{in_turn_named, turn_passes, turn_decides}
use Rattle.wire.proofs.Rules.{named_numbered}
use Rattle.wire.proofs.Answer.{none_judged}
use Rattle.wire.specs.Answer.{judged}
use Rattle.wire.specs.InTurn.{in_turn}
use Rattle.wire.specs.declared.refusals.Refusal.{Refusal}
use Rattle.adi_request.proofs.Stores.{given_next}
use Rattle.adi.specs.Head.{count_of, body_of, other_count}
use Rattle.adi.proofs.Groups.{group_of_size, count_of_size}
use Rattle.adi.proofs.Room.{some_judged}
use Rattle.adi_request.specs.Layout.{asked_of, groups_of}
use Rattle.adi_request.specs.Reading.{not_sevens, bad_count, group_rules, request_rules, wholly, asked_at}
use Rattle.adi_request.specs.Writing.{given_by, given, bad_number, asked_rules, judge_rules}
use Rattle.adi_request.specs.declared.Asked.{Asked}

pub record Sevens (n : ℕ) : Type 0 where
  pub some : 7 ≤ n
  pub few : n ≤ 245
  pub whole : n % 7 ≡ 0

sevens : (n : ℕ) → not_sevens n ≡ false → Sevens n
sevens n e =
    let p = or_neither (ltb n 7 || ltb 245 n) _ e in
    let q = or_neither (ltb n 7) _ p.0 in
    record { some = ltb-false _ _ q.0; few = ltb-false _ _ q.1; whole = eqb-true _ _ (not-false _ p.1) }

-- of n groups: none, or above 35
by_groups : (n : ℕ) → (eqb n 0 || ltb 35 n) ≡ not_sevens (n * 7)
by_groups n = go (eqb n 0) (ltb 35 n) refl refl
  where
    go : (a b : Bool) → eqb n 0 ≡ a → ltb 35 n ≡ b → (a || b) ≡ not_sevens (n * 7)
    go true b e f = sym (ap (λ (k : ℕ). not_sevens (k * 7)) (eqb-true n 0 e))
    go false true e f =
        let many : 35 < n = ltb-true 35 n f in
        let above : 245 < n * 7 = omega arith in
        let enough : 7 ≤ n * 7 = omega arith in
        simp (le-ltb (n * 7) 7 enough, lt-ltb 245 (n * 7) above)
    go false false e f =
        let some : n ≡ 0 → ⊥ = eqb-false n 0 e in
        let few : n ≤ 35 = ltb-false 35 n f in
        let enough : 7 ≤ n * 7 = omega arith in
        let within : n * 7 ≤ 245 = omega arith in
        let whole : n * 7 % 7 ≡ 0 = omega arith in
        simp (le-ltb (n * 7) 7 enough, le-ltb 245 (n * 7) within, eq-eqb (n * 7 % 7) 0 whole)

-- of groups as they are given, so many
pub given_sevens : (gs : List (List ℕ)) → (eqb (length gs) 0 || ltb 35 (length gs)) ≡ bad_number (given gs)
given_sevens gs = by_groups (length gs) ∙ ap (λ (n : ℕ). not_sevens (n * 7)) (sym (length-map gs given_by))

pub given_few : (gs : List (List ℕ)) → bad_number (given gs) ≡ false → length gs ≤ 35
given_few gs e = ltb-false _ _ (or_neither (eqb (length gs) 0) _ (given_sevens gs ∙ e)).1

-- a request whose byte count is good
module _ (s : List ℕ) (e : bad_count s ≡ false) where
  pub count_is : count_of s ≡ length (body_of s)
  count_is = eqb-true _ _ (not-false _ (or_neither (other_count s) _ e).0)

  pub body_sevens : Sevens (length (body_of s))
  body_sevens =
      let p = sevens (count_of s) (or_neither (other_count s) _ e).1 in
      let c = count_is in
      record { some = omega (arith, p.some); few = omega (arith, p.few); whole = omega (arith, p.whole) }

  pub body_groups : length (groups_of s) ≡ length (body_of s) / 7
  body_groups =
      let whole : length (body_of s) ≡ length (body_of s) / 7 * 7 = omega (arith, body_sevens.whole) in
      count_of_size 6 (length (body_of s) / 7) (body_of s) whole

pub request_named : (s : List ℕ) → T (named (request_rules s))
request_named s = in_turn_named group_rules (λ g. tt) (groups_of s)

pub request_numbered : (s : List ℕ) → T (numbered (request_rules s))
request_numbered s = named_numbered (request_rules s) (request_named s)

pub judge_named : (asks : List Asked) → T (named (judge_rules asks))
judge_named asks = in_turn_named asked_rules (λ a. tt) asks

pub judge_numbered : (asks : List Asked) → T (numbered (judge_rules asks))
judge_numbered asks = named_numbered (judge_rules asks) (judge_named asks)

-- as the code counts them
pub groups_counted : (s : List ℕ) (n : ℕ) → bad_count s ≡ false → n ≡ count_of s → n / 7 ≡ length (groups_of s)
groups_counted s n good e = ap (λ (k : ℕ). k / 7) (e ∙ count_is s good) ∙ sym (body_groups s good)

-- ---- a place, as the code asks for it
pub nothing_past : (s : List ℕ) (place : ℕ) → length (body_of s) / 7 < place → asked_at s place ≡ None
unfolding asked_at
nothing_past s zero h = refl
nothing_past s (suc k) h =
    let g = get_or (groups_of s) k [] in
    let here : length g ≡ length (body_of s) - k * 7 = ap length (group_of_size 6 (body_of s) k) ∙ length-drop (k * 7) (body_of s) in
    let short : length g < 7 = omega (arith, here) in
    ap (λ (b : Bool). cond b None (Some (asked_of g))) (lt-ltb _ _ short)

pub at_place_lem : (s : List ℕ) (place : ℕ) (g : List ℕ) → 1 ≤ place → place * 7 + 2 ≤ length s → g ≡ drop (place * 7 - 5) s → Some (asked_of g) ≡ asked_at s place
unfolding asked_at
at_place_lem s zero g h w e = absurd (omega arith)
at_place_lem s (suc k) g h w e =
    let start : suc k * 7 - 5 ≡ 2 + k * 7 = omega arith in
    let here : g ≡ get_or (groups_of s) k [] = e ∙ ap (λ (j : ℕ). drop j s) start ∙ sym (drop-drop (k * 7) 2 s) ∙ sym (group_of_size 6 (body_of s) k) in
    let long : length g ≡ length s - (suc k * 7 - 5) = ap length e ∙ length-drop (suc k * 7 - 5) s in
    let enough : 7 ≤ length g = omega (arith, long) in
    sym (ap wholly (sym here) ∙ ap (λ (b : Bool). cond b None (Some (asked_of g))) (le-ltb _ _ enough))

-- ---- groups as they are given, judged one after another: i of them were let through, and a is what the next asks for
module _ (gs : List (List ℕ)) (i : ℕ) (h : i < length gs) (a : Asked) (e : a ≡ given_by (get_or gs i [])) where
  rules_at : first (asked_rules a) ≡ first (asked_rules (given_by (get_or gs i [])))
  rules_at = ap (λ (x : Asked). first (asked_rules x)) e

  here : first (in_turn asked_rules (given (drop i gs))) ≡ first (in_turn asked_rules (given_by (get_or gs i []) ∷ given (drop (i + 1) gs)))
  here = ap (λ (asks : List Asked). first (in_turn asked_rules asks)) (given_next gs i h)

  pub given_passes : ◌≡◌ {A = Result Unit Refusal} (Ok tt) (judged tt (first (asked_rules a)))
      → first (in_turn asked_rules (given (drop (i + 1) gs))) ≡ first (in_turn asked_rules (given (drop i gs)))
  given_passes j =
      sym (here ∙ turn_passes asked_rules (λ x. tt) (given_by (get_or gs i [])) (given (drop (i + 1) gs)) 0 (sym (none_judged tt _ tt j) ∙ rules_at) refl)

  pub given_decides : (r : Refusal) → ◌≡◌ {A = Result Unit Refusal} (Err r) (judged tt (first (asked_rules a)))
      → ◌≡◌ {A = Result Unit Refusal} (Err r) (judged tt (first (in_turn asked_rules (given (drop i gs)))))
  given_decides r j =
      j
      ∙ ap (judged tt)
      (turn_decides asked_rules (λ x. tt) (given_by (get_or gs i [])) (given (drop (i + 1) gs)) _ rules_at (some_judged _ r j)
      ∙ sym here)

pub given_pass : (gs : List (List ℕ)) (i : ℕ) → length gs ≤ i → first (in_turn asked_rules (given (drop i gs))) ≡ 0
unfolding in_turn
given_pass gs i h = ap (λ (rest : List (List ℕ)). first (in_turn asked_rules (given rest))) (drop_of_length-le gs {i = i} h)
