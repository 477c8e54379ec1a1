-- Each group of a reply that is accepted has two register bytes at least; at any other place there are none. So no bytes say that there is no such group.
-- Assumes nothing.
use mathlib.Core.Path.{◌≡◌, refl, sym, ap, ◌∙◌}
use mathlib.Core.Bool.{false}
use mathlib.Core.List.{List, [], ◌∷◌, map}
use Prim.Native.Nat.{ℕ, zero, suc, ◌%◌, ◌≤◌, ◌<◌}
use native.Mathlib.Omega.{arith}
use lib.Dec.{ltb}
use lib.ListN.{length, get_or, length-map, get_or-eq_default}
use borrow.Author.Tests.{ltb-false, eqb-true, not-false}
use Rattle.std.specs.Prelude.{Ok}
use Rattle.wire.specs.InTurn.{Faultless}
use Rattle.wire.proofs.Bools.{or_neither}
use Rattle.adi.specs.Groups.{at_place}
use Rattle.adi_reply.specs.Layout.{registers_of, groups_of}
use Rattle.adi_reply.specs.Reading.{not_even_from2, group_rules, read_reply, registers_at}
use Rattle.adi_reply.specs.Promise.{Says}
use Rattle.adi_reply.specs.declared.Reply.TheVariants.{Groups}
use Rattle.adi_reply.proofs.Bytes.{again_good}
use Rattle.adi_reply.proofs.RoundTrip.{read_faultless, read_as_many}

registers_in : (gs : List (List ℕ)) (k : ℕ) → Faultless group_rules gs → k < length gs → not_even_from2 (length (registers_of (get_or gs k []))) ≡ false
registers_in [] k f h = absurd (omega arith)
registers_in (g ∷ gs) zero f h = (again_good g (f.0, tt)).0.0
registers_in (g ∷ gs) (suc k) f h = registers_in gs k f.1 (omega arith)

module _ (s : List ℕ) (n : ℕ) (e : read_reply s ≡ Ok (Groups n)) where
  pub registers_there : (place : ℕ) → 1 ≤ place → place ≤ n → (2 ≤ length (registers_at s place)) × (length (registers_at s place) % 2 ≡ 0)
  unfolding registers_at
  registers_there zero some few = absurd (omega arith)
  registers_there (suc k) some few =
      let l = length (registers_of (get_or (groups_of s) k [])) in
      let p = or_neither (ltb l 2) _ (registers_in (groups_of s) k (read_faultless s n e) (omega (arith, read_as_many s n e))) in
      (ltb-false l 2 p.0, eqb-true (l % 2) 0 (not-false _ p.1))

  pub registers_nowhere : (place : ℕ) → n < place → registers_at s place ≡ []
  unfolding registers_at
  registers_nowhere zero many = refl
  registers_nowhere (suc k) many =
      let past : length (groups_of s) ≤ k = omega (arith, read_as_many s n e) in
      ap registers_of (get_or-eq_default (groups_of s) [] past)

-- so it is read as groups: those that stand at its places
each_of : (gs : List (List ℕ)) (place : ℕ) → registers_of (at_place [] gs place) ≡ at_place [] (map registers_of gs) place
each_of gs zero = refl
each_of [] (suc k) = refl
each_of (g ∷ gs) (suc zero) = refl
each_of (g ∷ gs) (suc (suc k)) = each_of gs (suc k)

pub accepted_says : (s : List ℕ) (n : ℕ) → read_reply s ≡ Ok (Groups n) → (rs : List (List ℕ)) × Says s rs
unfolding registers_at
accepted_says s n e = (
  map registers_of (groups_of s),
  record { count = e ∙ ap (λ (k : ℕ). Ok (Groups k)) (sym (read_as_many s n e) ∙ sym (length-map (groups_of s) registers_of)); each = each_of (groups_of s) },
)

pub registers_at_0 : (s : List ℕ) → registers_at s 0 ≡ []
unfolding registers_at
registers_at_0 s = refl
