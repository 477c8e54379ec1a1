-- There are calls of any kind, in any order, from any table; and 32 turns may be needed.
-- Assumes nothing.
use mathlib.Core.Path.{◌≡◌, refl, ap}
use mathlib.Core.List.{List, [], ◌∷◌, map}
use Prim.Native.Nat.{ℕ}
use lib.ListN.{replicate}
use Rattle.wire.specs.Refusal.{pick}
use Rattle.wire.specs.Told.{Told, accepted}
use Rattle.turns.specs.Table.{fresh, onward, first_of, some, next_after, lowest_with, unfit_slot, unfit}
use Rattle.turns.specs.Calls.{added, removed, marked, cleared, turned, told_adding, told_changing, told_turning}
use Rattle.turns.specs.declared.Table.{Table}
use Rattle.turns_laws.specs.Course.{Call, Add, Remove, Mark, Clear, Turn, Exchange, exchange, ByCall, of_add, of_remove, of_mark, of_clear, of_turn, Course, of_new, Made}
use Rattle.turns_laws.specs.Fairness.{turns_in}
use Rattle.turns_laws.specs.Needed.{calls_of, Calls, all_due, in_turn}

-- a call that met its contract
call_with : (t : Table) (c : Call) → (r : Told) × (u : Table) × ByCall t (exchange c r) u
call_with t (Add a) = (told_adding (added t a).answer, (added t a).table, of_add tt (t, (a, tt)) (added t a) (t, (a, tt)) refl)
call_with t (Remove k) = (told_changing (removed t k).answer, (removed t k).table, of_remove tt (t, (k, tt)) (removed t k) (t, (k, tt)) refl)
call_with t (Mark k) = (told_changing (marked t k).answer, (marked t k).table, of_mark tt (t, (k, tt)) (marked t k) (t, (k, tt)) refl)
call_with t (Clear k) = (told_changing (cleared t k).answer, (cleared t k).table, of_clear tt (t, (k, tt)) (cleared t k) (t, (k, tt)) refl)
call_with t Turn = (told_turning (turned t).answer, (turned t).table, of_turn tt (t, tt) (turned t) (t, tt) refl)

first_call : (t : Table) (c : Call) (cs : List Call) (one : (r : Told) × (u : Table) × ByCall t (exchange c r) u) → Calls one.1 cs → Calls t (c ∷ cs)
unfolding Course
first_call t c cs one more =
    (exchange c one.0 ∷ more.0, more.1, (one.1, one.2, more.2), ap (λ (ds : List Call). c ∷ ds) more.3)

pub calls_with : (t : Table) (cs : List Call) → Calls t cs
unfolding Course
calls_with t [] = ([], t, refl, refl)
calls_with t (c ∷ cs) = first_call t c cs (call_with t c) (calls_with (call_with t c).1 cs)

-- and so from a new table
pub made_with : (cs : List Call) → (xs : List Exchange) × (u : Table) × Made xs u × (calls_of xs ≡ cs)
made_with cs =
    let c = calls_with fresh cs in
    (c.0, c.1, (fresh, of_new tt tt fresh tt refl, c.2), c.3)

-- Where all slots are due, and slot 5 is the last asked, 32 turns and nothing else give it by the 32nd and no sooner.
pub all_needed : (xs : List Exchange) × (u : Table) × Course (all_due 5) xs u × (calls_of xs ≡ replicate 32 Turn)
    × (turns_in xs ≡ map (λ (k : ℕ). accepted (k ∷ k ∷ [])) in_turn)
unfolding turns_in calls_with first_call call_with onward first_of some next_after lowest_with unfit_slot unfit turned pick
all_needed =
    let c = calls_with (all_due 5) (replicate 32 Turn) in
    (c.0, c.1, c.2, c.3, refl)
