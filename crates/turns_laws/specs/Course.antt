-- Calls one after the other on one table. Of each is known that it met its contract, as the source states it: `Post` is made from the source.
-- Assumes nothing.
use Rattle.std.specs.Prelude.{ℕ, ◌≡◌, List, [], ◌∷◌}
use borrow.Fn.World.{ArgsD, ResD}
use contract.Lifetimes.{Lfts}
use denote.Triple.Clauses.{AtExit}
use Rattle.wire.specs.Told.{Told}
use Rattle.turns.specs.Calls.{told_adding, told_changing, told_turning}
use Rattle.turns.specs.declared.Table.{Table}
use Rattle.turns.specs.contracts.new as making
use Rattle.turns.proofs.new.Reads as makes
use Rattle.turns.specs.contracts.add as adding
use Rattle.turns.proofs.add.Reads as adds
use Rattle.turns.specs.contracts.remove as removing
use Rattle.turns.proofs.remove.Reads as removes
use Rattle.turns.specs.contracts.mark as marking
use Rattle.turns.proofs.mark.Reads as marks
use Rattle.turns.specs.contracts.clear as clearing
use Rattle.turns.proofs.clear.Reads as clears
use Rattle.turns.specs.contracts.turn as turning
use Rattle.turns.proofs.turn.Reads as turns

-- "Marking, clearing, adding and removing are calls", and a turn is one
pub data Call : Type 0 where
  Add : ℕ → Call
  Remove : ℕ → Call
  Mark : ℕ → Call
  Clear : ℕ → Call
  Turn : Call

-- a call, and what is answered to it
pub record Exchange : Type 0 where
  pub call : Call
  pub told : Told

abbrev pub exchange : Call → Told → Exchange
exchange c r = record { call = c; told = r }

-- A call found a table, was answered, and left a table. Its arguments are a, in the source's order, its answer is r, and e are the arguments at its end.
pub data ByCall : Table → Exchange → Table → Type 0 where
  of_add : (κs : Lfts 0) (a : ArgsD adding.signature κs) (r : ResD adding.signature κs) (e : AtExit adding.ended κs)
      → adds.Post κs a r e
      → ByCall a.0 (exchange (Add a.1.0) (told_adding r.answer)) r.table
  of_remove : (κs : Lfts 0) (a : ArgsD removing.signature κs) (r : ResD removing.signature κs) (e : AtExit removing.ended κs)
      → removes.Post κs a r e
      → ByCall a.0 (exchange (Remove a.1.0) (told_changing r.answer)) r.table
  of_mark : (κs : Lfts 0) (a : ArgsD marking.signature κs) (r : ResD marking.signature κs) (e : AtExit marking.ended κs)
      → marks.Post κs a r e
      → ByCall a.0 (exchange (Mark a.1.0) (told_changing r.answer)) r.table
  of_clear : (κs : Lfts 0) (a : ArgsD clearing.signature κs) (r : ResD clearing.signature κs) (e : AtExit clearing.ended κs)
      → clears.Post κs a r e
      → ByCall a.0 (exchange (Clear a.1.0) (told_changing r.answer)) r.table
  of_turn : (κs : Lfts 0) (a : ArgsD turning.signature κs) (r : ResD turning.signature κs) (e : AtExit turning.ended κs)
      → turns.Post κs a r e
      → ByCall a.0 (exchange Turn (told_turning r.answer)) r.table

-- Calls in turn lead from table t to table u. Each finds the table that the one before it left.
unfoldable pub Course : Table → List Exchange → Table → Type 0
Course t [] u = u ≡ t
Course t (x ∷ xs) u = (v : Table) × ByCall t x v × Course v xs u

-- each of the calls is so
unfoldable pub EachCall : (Call → Type 0) → List Exchange → Type 0
EachCall P [] = Unit {0}
EachCall P (x ∷ xs) = P x.call × EachCall P xs

-- `new` answered the table
pub data ByNew : Table → Type 0 where
  of_new : (κs : Lfts 0) (a : ArgsD making.signature κs) (r : ResD making.signature κs) (e : AtExit making.ended κs)
      → makes.Post κs a r e
      → ByNew r

-- calls in turn make table u from a new one
abbrev pub Made : List Exchange → Table → Type 0
Made xs u = (t : Table) × ByNew t × Course t xs u
