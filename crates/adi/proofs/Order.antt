-- Demand 1 of the number that reading a descriptor tells, and its rule in two parts; and what its contents are by their number.
-- Assumes nothing.
use mathlib.Core.Path.{◌≡◌, refl}
use mathlib.Core.Bool.{Bool, true, false, ◌||◌}
use mathlib.Core.List.{List}
use Prim.Native.Nat.{ℕ, zero, suc, ◌≤◌}
use native.Mathlib.Omega.{arith}
use lib.Dec.{ltb}
use Rattle.wire.specs.Refusal.{pick, first, FirstInOrder}
use Rattle.wire.proofs.Answer.{named_first}
use Rattle.adi.specs.Descriptor.{contents_number, contents_from, contents_of, contents_rules, no_descriptor, descriptor_rules, descriptor_of, read_descriptor, told_descriptor}
use Rattle.wire.specs.Answer.{refuse}
use Rattle.std.specs.Prelude.{Ok}

pub read_descriptor_first : (s : List ℕ) → FirstInOrder (descriptor_rules s) (told_descriptor (read_descriptor s)).number
unfolding read_descriptor
read_descriptor_first s = named_first refuse (Ok (descriptor_of s)) (λ x. (told_descriptor x).number) (λ n. refl) (descriptor_rules s) tt refl

-- the rule in its two parts, as the code asks them
pub in_parts : (s : List ℕ) → pick (no_descriptor s) 84 (first (contents_rules (contents_of s))) ≡ first (descriptor_rules s)
unfolding pick
in_parts s = either (no_descriptor s) (ltb 3 (contents_of s))
  where
    either : (a b : Bool) → pick a 84 (pick b 84 0) ≡ pick (a || b) 84 0
    either true b = refl
    either false b = refl

-- a number that is not refused is told again
pub contents_again : (n : ℕ) → n ≤ 3 → contents_number (contents_from n) ≡ n
contents_again zero h = refl
contents_again (suc zero) h = refl
contents_again (suc (suc zero)) h = refl
contents_again (suc (suc (suc zero))) h = refl
contents_again (suc (suc (suc (suc n)))) h = absurd (omega arith)
