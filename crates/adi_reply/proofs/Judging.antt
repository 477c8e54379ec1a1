-- That every rule has a number; the lengths of groups, one after another: their sum, their faults, and what is good about them; and a group, and a place, as the code reads it.
-- Assumes nothing.
use mathlib.Core.Path.{◌≡◌, refl, sym, ap, ◌∙◌}
use mathlib.Core.Bool.{Bool, true, false, ◌||◌}
use mathlib.Core.List.{List, [], ◌∷◌}
use Prim.Native.Nat.{ℕ, zero, suc, ◌+◌, ◌-◌, ◌*◌, ◌≤◌, ◌<◌}
use native.Mathlib.Numerals.{add-one}
use native.Mathlib.Omega.{arith}
use lib.Dec.{T, ltb}
use lib.ListN.{length, get_or, drop, drop_of_length-le}
use lib.Seq.{drop-cons}
use borrow.Author.Tests.{eqb-true, ltb-false, not-false}
use Rattle.std.specs.Prelude.{sum}
use Rattle.std.specs.List.{list_any}
use Rattle.std.proofs.lemmas.List.Sums.{sum_by-cons}
use Rattle.wire.specs.InTurn.{in_turn}
use Rattle.wire.specs.Refusal.{pick, first, numbered, named}
use Rattle.wire.proofs.Bools.{or_neither}
use Rattle.wire.proofs.InTurn.{in_turn_named}
use Rattle.wire.proofs.Rules.{none_first, named_numbered}
use Rattle.adi.specs.Groups.{starts, groups, at_place}
use Rattle.adi_reply.specs.Layout.{typed, registers_of, groups_of}
use Rattle.adi_reply.specs.Reading.{not4to245, not_even_from2, four_bytes, group_rules, body_rules, reply_rules, registers_at}
use Rattle.adi_reply.specs.Writing.{total, count_for, bad_number, length_rules, judge_rules}

-- ---- every rule has a refusal's number
body_named : (b : Bool) (s : List ℕ) → T (named (body_rules b s))
body_named true s = tt
body_named false s = in_turn_named group_rules (λ g. tt) (groups_of s)

pub reply_named : (s : List ℕ) → T (named (reply_rules s))
reply_named s = body_named (four_bytes s) s

pub reply_numbered : (s : List ℕ) → T (numbered (reply_rules s))
reply_numbered s = named_numbered (reply_rules s) (reply_named s)

pub judge_named : (ns registers : List ℕ) → T (named (judge_rules ns registers))
judge_named ns registers = in_turn_named length_rules (λ n. tt) ns

pub judge_numbered : (ns registers : List ℕ) → T (numbered (judge_rules ns registers))
judge_numbered ns registers = named_numbered (judge_rules ns registers) (judge_named ns registers)

-- ---- the lengths: their sum, and whether one is faulty
pub total_is : (ns : List ℕ) → total ns ≡ sum ns
unfolding total
total_is [] = refl
total_is (n ∷ ns) = ap (λ (k : ℕ). n + k) (total_is ns) ∙ sym (sum_by-cons (λ (x : ℕ). x) n ns)

pub total_most : (ns : List ℕ) → ((i : ℕ) → get_or ns i 0 < 256) → total ns ≤ length ns * 255
unfolding total
total_most [] f = omega arith
total_most (n ∷ ns) f =
    let here : n < 256 = f 0 in
    let more = total_most ns (λ (i : ℕ). f (suc i)) in
    omega arith

pub any_faulty : (ns : List ℕ) → first (in_turn length_rules ns) ≡ pick (list_any not_even_from2 ns) 83 0
unfolding in_turn pick
any_faulty [] = refl
any_faulty (n ∷ ns) = ap (pick (not_even_from2 n) 83) (any_faulty ns) ∙ both (not_even_from2 n) (list_any not_even_from2 ns)
  where
    both : (a b : Bool) → pick a 83 (pick b 83 0) ≡ pick (a || b) 83 0
    both true b = refl
    both false b = refl

-- past the last length, what was found is the answer
pub any_end : (ns : List ℕ) (i : ℕ) (faulty : Bool) → length ns ≤ i → (faulty || list_any not_even_from2 (drop i ns)) ≡ list_any not_even_from2 ns
    → faulty ≡ list_any not_even_from2 ns
any_end ns i faulty h e =
    sym (ap (λ (l : List ℕ). faulty || list_any not_even_from2 l) (drop_of_length-le ns {i = i} h) ∙ or-false faulty) ∙ e
  where
    or-false : (b : Bool) → (b || false) ≡ b
    or-false true = refl
    or-false false = refl

-- the sum of those from place i on
module _ (ns : List ℕ) (i : ℕ) (h : i < length ns) where
  pub next : drop i ns ≡ get_or ns i 0 ∷ drop (i + 1) ns
  next = drop-cons ns i 0 h ∙ ap (λ (k : ℕ). get_or ns i 0 ∷ drop k ns) (sym (add-one i))

  pub total_next : total (drop i ns) ≡ get_or ns i 0 + total (drop (i + 1) ns)
  unfolding total
  total_next = ap total next

-- ---- what is good where nothing is refused
pub record Good (ns registers : List ℕ) : Type 0 where
  pub some : 4 ≤ count_for ns
  pub few : count_for ns ≤ 245
  pub all : total ns ≡ length registers

pub good : (ns registers : List ℕ) → bad_number ns registers ≡ false → Good ns registers
good ns registers e =
    let p = or_neither (not4to245 (count_for ns)) _ e in
    let q = or_neither (ltb (count_for ns) 4) _ p.0 in
    record { some = ltb-false _ _ q.0; few = ltb-false _ _ q.1; all = eqb-true _ _ (not-false _ p.1) }

pub judged_good : (ns registers : List ℕ) → first (judge_rules ns registers) ≡ 0 → Good ns registers
judged_good ns registers z = good ns registers (none_first (judge_rules ns registers) (judge_numbered ns registers) z).0

-- ---- a place, as the code asks for it
pub first_at : (g : List ℕ) → g ≡ get_or (groups typed g) 0 []
unfolding starts
first_at [] = refl
first_at (n ∷ g) = refl

pub no_registers : (s : List ℕ) (place : ℕ) → place ≡ 0 → [] ≡ registers_at s place
unfolding registers_at
no_registers s place z = sym (ap (λ (k : ℕ). registers_of (at_place [] (groups_of s) k)) z)

pub registers_of_place : (s : List ℕ) (place : ℕ) → (place ≡ 0 → ⊥) → registers_of (get_or (groups_of s) (place - 1) []) ≡ registers_at s place
unfolding registers_at
registers_of_place s zero some = absurd (some refl)
registers_of_place s (suc k) some =
    let less : suc k - 1 ≡ k = omega arith in
    ap (λ (j : ℕ). registers_of (get_or (groups_of s) j [])) less
