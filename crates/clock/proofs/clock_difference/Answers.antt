-- `clock::clock_difference` meets its contract: each number of seconds is read from its bits as itself, and the difference fits.
use mathlib.Core.Path.{◌≡◌, sym, ap, ap₂, ◌∙◌, subst}
use mathlib.Core.Bool.{true}
use Prim.Native.Nat.{ℕ, ◌<◌, ◌^◌}
use native.Mathlib.Omega.{arith}
use lib.IntN.{pos, ◌-ℤ◌}
use mir.Syntax.{w64}
use mir.Val.{SFits, to_z, of_z}
use mir.ValLaws.{to_z_pos, to_z-of_z}
use Rattle.date.specs.Date.{is_date}
use Rattle.date.specs.declared.DateTime.{DateTime}
use Rattle.clock.specs.Seconds.{seconds_since2000}
use Rattle.clock.specs.Clock.{clock_rules, seconds_apart}
use Rattle.std.specs.Prelude.{Result, Ok}
use Rattle.wire.specs.Answer.{judged}
use Rattle.wire.specs.Refusal.{first}
use Rattle.wire.specs.declared.refusals.Refusal.{Refusal}
use Rattle.wire.proofs.Answer.{none_judged}
use Rattle.clock.proofs.Rising.{seconds_most}
use Rattle.clock.proofs.Laws.{fits, both_good, answered_seconds}
use Rattle.clock.proofs.clock_difference.Goals as goal

-- the seconds of a date fit, and so does whichever is taken from another

few : (d : DateTime) (n : ℕ) → is_date d ≡ true → n ≡ seconds_since2000 d → n < 2 ^ 63
few d n good e = let most = seconds_most d good in omega arith

difference-fits : (x y : ℕ) → x < 2 ^ 63 → y < 2 ^ 63 → SFits w64 (to_z w64 x -ℤ to_z w64 y)
difference-fits x y p q = subst (SFits w64) (sym (ap₂ ◌-ℤ◌ (to_z_pos w64 x p) (to_z_pos w64 y q))) (record { sfits = fits x y p q })

-- what the bits of x less y say

difference : (meter cabinet : DateTime) (x y : ℕ) → is_date meter ≡ true → is_date cabinet ≡ true → x ≡ seconds_since2000 meter → y ≡ seconds_since2000 cabinet
    → to_z w64 (of_z w64 (to_z w64 x -ℤ to_z w64 y)) ≡ seconds_apart meter cabinet
difference meter cabinet x y m c ex ey =
    let p = few meter x m ex in
    let q = few cabinet y c ey in
    to_z-of_z w64 _ (difference-fits x y p q) ∙ ap₂ ◌-ℤ◌ (to_z_pos w64 x p ∙ ap pos ex) (to_z_pos w64 y q ∙ ap pos ey)

-- what the judge let through are dates
dates : (meter cabinet : DateTime) → ◌≡◌ {A = Result Unit Refusal} (Ok tt) (judged tt (first (clock_rules meter cabinet))) → (is_date meter ≡ true) × (is_date cabinet ≡ true)
dates meter cabinet e = both_good meter cabinet (none_judged tt _ tt e)

pub seconds_since_2000-at_meter-requires : goal.seconds_since_2000-at_meter-requires
seconds_since_2000-at_meter-requires c = (dates _ _ c.in_ok-judge.ensures).0

pub seconds_since_2000-at_cabinet-requires : goal.seconds_since_2000-at_cabinet-requires
seconds_since_2000-at_cabinet-requires c = (dates _ _ c.in_ok-judge.ensures).1

pub overflow_cast-at_meter : goal.overflow_cast-at_meter
overflow_cast-at_meter c = record { sfits = few _ _ (dates _ _ c.in_ok-judge.ensures).0 c.seconds_since_2000-at_meter.ensures }

pub overflow_cast-at_cabinet : goal.overflow_cast-at_cabinet
overflow_cast-at_cabinet c = record { sfits = few _ _ (dates _ _ c.in_ok-judge.ensures).1 c.seconds_since_2000-at_cabinet.ensures }

pub overflow_sub-result : goal.overflow_sub-result
overflow_sub-result c =
    let p = few _ _ (dates _ _ c.in_ok-judge.ensures).0 c.seconds_since_2000-at_meter.ensures in
    let q = few _ _ (dates _ _ c.in_ok-judge.ensures).1 c.seconds_since_2000-at_cabinet.ensures in
    search (difference-fits, p, q)

pub returns : goal.returns
returns c =
    let both = dates _ _ c.in_ok-judge.ensures in
    let m = both.0 in
    let k = both.1 in
    ap Ok (difference _ _ c.seconds_since_2000-at_meter.result c.seconds_since_2000-at_cabinet.result m k c.seconds_since_2000-at_meter.ensures c.seconds_since_2000-at_cabinet.ensures)
    ∙ sym (answered_seconds _ _ m k)
