-- First in order and only when its condition holds: the number told is that of the first rule.
-- Assumes nothing.
use mathlib.Core.Path.{refl}
use Prim.Native.Nat.{ℕ}
use Rattle.wire.specs.Answer.{refuse}
use Rattle.wire.specs.Refusal.{FirstInOrder}
use Rattle.wire.proofs.Answer.{named_first}
use Rattle.turns.specs.Calls.{Added, Changed, Turned, answered_with, add_rules, slot_rules, turn_rules, added, changed, removed, marked, cleared, turned, told_adding, told_changing, told_turning}
use Rattle.turns.specs.declared.Table.{Table}

pub add_first : (t : Table) (a : ℕ) → FirstInOrder (add_rules t a) (told_adding (added t a).answer).number
unfolding added
add_first t a = named_first (λ (n : ℕ). answered_with (refuse n) t) _ (λ (r : Added). (told_adding r.answer).number) (λ n. refl) (add_rules t a) tt refl

change_first : (t : Table) (k : ℕ) (t' : Table) → FirstInOrder (slot_rules t k) (told_changing (changed t k t').answer).number
unfolding changed
change_first t k t' = named_first (λ (n : ℕ). answered_with (refuse n) t) _ (λ (r : Changed). (told_changing r.answer).number) (λ n. refl) (slot_rules t k) tt refl

pub remove_first : (t : Table) (k : ℕ) → FirstInOrder (slot_rules t k) (told_changing (removed t k).answer).number
remove_first t k = change_first t k _

pub mark_first : (t : Table) (k : ℕ) → FirstInOrder (slot_rules t k) (told_changing (marked t k).answer).number
mark_first t k = change_first t k _

pub clear_first : (t : Table) (k : ℕ) → FirstInOrder (slot_rules t k) (told_changing (cleared t k).answer).number
clear_first t k = change_first t k _

pub turn_first : (t : Table) → FirstInOrder (turn_rules t) (told_turning (turned t).answer).number
unfolding turned
turn_first t = named_first (λ (n : ℕ). answered_with (refuse n) t) _ (λ (r : Turned). (told_turning r.answer).number) (λ n. refl) (turn_rules t) tt refl
