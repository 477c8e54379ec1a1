-- The laws of a difference that is answered.
-- Assumes nothing.
use mathlib.Core.Path.{◌≡◌, refl, sym, ap, ◌∙◌, subst}
use mathlib.Core.Bool.{Bool, true, false, not, cond}
use Prim.Native.Nat.{ℕ, zero, suc, ◌+◌, ◌-◌, ◌^◌, ◌≤◌, ◌<◌}
use native.Mathlib.Omega.{arith}
use lib.Dec.{ltb}
use lib.IntN.{ℤ, pos, negsuc, neg_ℤ, nat_abs, ◌+ℤ◌, ◌-ℤ◌, neg_ℤ-+ℤ, neg_ℤ-neg_ℤ, +ℤ_comm, +ℤ_invr, -ℤ-+ℤ_cancel}
use lib.Signed.{mag, non_neg}
use borrow.Author.Tests.{ltb-true, ltb-false, lt-ltb, le-ltb, not-false}
use Rattle.wire.specs.Refusal.{first}
use Rattle.wire.proofs.Answer.{judged_none, accepted_as}
use Rattle.wire.proofs.Rules.{first_none, none_first}
use Rattle.date.specs.Date.{is_date}
use Rattle.date.specs.declared.DateTime.{DateTime}
use Rattle.clock.specs.Seconds.{seconds_since2000}
use Rattle.clock.specs.Clock.{clock_rules, seconds_apart, clock_difference}
use Rattle.clock.specs.Laws.{TrueDifference}
use Rattle.std.specs.Prelude.{Ok}
use Rattle.clock.proofs.Rising.{rising, seconds_most, one_date}

-- x less y, where y is more and where it is not
less_more : (x y : ℕ) → x < y → pos x -ℤ pos y ≡ negsuc (y - suc x)
less_more x zero h = absurd (omega arith)
less_more x (suc n) h = ap (λ (b : Bool). cond b (negsuc (suc n - suc x)) (pos (x - suc n))) (lt-ltb x (suc n) h)

less_no_more : (x y : ℕ) → y ≤ x → pos x -ℤ pos y ≡ pos (x - y)
less_no_more x zero h = ap pos (omega arith)
less_no_more x (suc n) h = ap (λ (b : Bool). cond b (negsuc (suc n - suc x)) (pos (x - suc n))) (le-ltb x (suc n) h)

-- what holds of it in both cases
either : (P : ℤ → Type 0) (x y : ℕ) → (x < y → P (negsuc (y - suc x))) → (y ≤ x → P (pos (x - y))) → P (pos x -ℤ pos y)
either P x y more less = go (ltb x y) refl
  where
    go : (t : Bool) → ltb x y ≡ t → P (pos x -ℤ pos y)
    go true e = let h = ltb-true x y e in subst P (sym (less_more x y h)) (more h)
    go false e = let h = ltb-false x y e in subst P (sym (less_no_more x y h)) (less h)

-- it fits an i64
pub fits : (x y : ℕ) → x < 2 ^ 63 → y < 2 ^ 63 → mag (pos x -ℤ pos y) < 2 ^ 63
fits x y p q = either (λ (z : ℤ). mag z < 2 ^ 63) x y (λ h. omega arith) (λ h. omega arith)

size : (x y most : ℕ) → x ≤ most → y ≤ most → nat_abs (pos x -ℤ pos y) ≤ most
size x y most p q = either (λ (z : ℤ). nat_abs z ≤ most) x y (λ h. omega arith) (λ h. omega arith)

sign : (x y : ℕ) → not (non_neg (pos x -ℤ pos y)) ≡ ltb x y
sign x y = either (λ (z : ℤ). not (non_neg z) ≡ ltb x y) x y (λ h. sym (lt-ltb x y h)) (λ h. sym (le-ltb x y h))

negated : (x y : ℤ) → y -ℤ x ≡ neg_ℤ (x -ℤ y)
negated x y = sym (neg_ℤ-+ℤ x (neg_ℤ y) ∙ ap (λ (z : ℤ). neg_ℤ x +ℤ z) (neg_ℤ-neg_ℤ y) ∙ +ℤ_comm (neg_ℤ x) y)

nothing_apart : (x y : ℕ) → pos x -ℤ pos y ≡ pos 0 → x ≡ y
nothing_apart x y e =
    let back : 0 + y ≡ x = ap nat_abs (ap (λ (z : ℤ). z +ℤ pos y) (sym e) ∙ -ℤ-+ℤ_cancel (pos x) (pos y)) in
    omega arith

module _ (meter cabinet : DateTime) where
  -- where no rule holds, both are dates
  pub both_good : first (clock_rules meter cabinet) ≡ 0 → (is_date meter ≡ true) × (is_date cabinet ≡ true)
  both_good z =
      let none = none_first (clock_rules meter cabinet) tt z in
      (not-false (is_date meter) none.0, not-false (is_date cabinet) none.1.0)

  -- what an answer in seconds says
  both_dates : (z : ℤ) → clock_difference meter cabinet ≡ Ok z → (is_date meter ≡ true) × (is_date cabinet ≡ true) × (seconds_apart meter cabinet ≡ z)
  both_dates z e =
      let said = accepted_as (seconds_apart meter cabinet) _ z e in
      let good = both_good said.0 in
      (good.0, good.1, said.1)

  -- the answer for two dates
  pub answered_seconds : is_date meter ≡ true → is_date cabinet ≡ true → clock_difference meter cabinet ≡ Ok (seconds_apart meter cabinet)
  answered_seconds m c = judged_none (seconds_apart meter cabinet) _ (first_none (clock_rules meter cabinet) (ap not m, (ap not c, tt)))

pub true_difference : (meter cabinet : DateTime) (z : ℤ) → clock_difference meter cabinet ≡ Ok z → TrueDifference meter cabinet z
true_difference meter cabinet z e =
    let said = both_dates meter cabinet z e in
    let x = seconds_since2000 meter in
    let y = seconds_since2000 cabinet in
    subst (TrueDifference meter cabinet) said.2
    (record {
      swapped = answered_seconds cabinet meter said.1 said.0 ∙ ap Ok (negated (pos x) (pos y));
      added_back = -ℤ-+ℤ_cancel (pos x) (pos y);
      largest = size x y 3155759999 (seconds_most meter said.0) (seconds_most cabinet said.1);
      same = (
        (λ n. one_date meter cabinet said.0 said.1 (nothing_apart x y n)),
        (λ s. ap (λ (d : DateTime). seconds_apart d cabinet) s ∙ +ℤ_invr (pos y)),
      );
      slow = sign x y ∙ rising meter cabinet said.0 said.1;
    })
