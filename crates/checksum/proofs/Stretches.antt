-- A message in stretches: calls that sum them in turn, each from what the one before it answered, give the sum of the whole. Of each call is
-- used that it met its contract, as the source states it, and nothing else.
-- Assumes nothing.
use mathlib.Core.Path.{◌≡◌, refl, sym, ap, ◌∙◌}
use mathlib.Core.List.{List, [], ◌∷◌, ◌++◌, flatten}
use Prim.Native.Nat.{ℕ, ◌+◌, ◌<◌, ◌≤◌}
use lib.Dec.{eqb}
use lib.ListN.{length, take}
use borrow.Fn.World.{ArgsD, ResD}
use contract.Lifetimes.{Lfts}
use denote.Triple.Clauses.{AtExit}
use denote.Ref.{Bor}
use Rattle.wire.specs.Each.{Bytes}
use Rattle.wire.specs.Numbers.{of_le, field}
use Rattle.checksum.specs.Crc.{crc_from, remainder}
use Rattle.checksum.specs.Stretches.{InTurn}
use Rattle.checksum.proofs.Laws.{crc_from_append, closes_at}
use Rattle.checksum.specs.contracts.checksum_from as from
use Rattle.checksum.proofs.checksum_from.Reads as from-reads
use Rattle.checksum.specs.contracts.checksum as whole
use Rattle.checksum.proofs.checksum.Reads as whole-reads

-- a call was given a start (`checksum` takes FFFF) and bytes, and answered a sum
pub data Sums : ℕ → List ℕ → ℕ → Type 0 where
  of_checksum_from : (κs : Lfts 1) (a : ArgsD from.signature κs) (r : ResD from.signature κs) (e : AtExit from.ended κs)
      → from-reads.Post κs a r e
      → Sums a.0 a.1.0.now r
  of_checksum : (κs : Lfts 1) (a : ArgsD whole.signature κs) (r : ResD whole.signature κs) (e : AtExit whole.ended κs)
      → whole-reads.Post κs a r e
      → Sums 0xFFFF a.0.now r

sum_due : (start : ℕ) (bytes : List ℕ) (sum : ℕ) → Sums start bytes sum → sum ≡ crc_from start bytes
sum_due _ _ _ (of_checksum_from κs a r e met) = met
sum_due _ _ _ (of_checksum κs a r e met) = met

-- what is summed on from its answer is summed behind its bytes
goes_on : (start : ℕ) (bytes : List ℕ) (c : ℕ) (more : List ℕ) → Sums start bytes c → crc_from c more ≡ crc_from start (bytes ++ more)
goes_on start bytes c more one = ap (λ (k : ℕ). crc_from k more) (sum_due start bytes c one) ∙ sym (crc_from_append start bytes more)

due_in_turn : (start : ℕ) (stretches : List (List ℕ)) (sum : ℕ) → InTurn Sums start stretches sum → sum ≡ crc_from start (flatten stretches)
unfolding InTurn remainder flatten
due_in_turn start [] sum e = e
due_in_turn start (bytes ∷ more) sum (c, one, rest) = due_in_turn c more sum rest ∙ goes_on start bytes c (flatten more) one

-- "a message cut in two anywhere, also at its ends, gives the sum of the whole"
pub cut_in_two : (start : ℕ) (first second : List ℕ) (c sum all : ℕ)
    → Sums start first c → Sums c second sum → Sums start (first ++ second) all → sum ≡ all
cut_in_two start first second c sum all one two whole =
    sum_due c second sum two ∙ goes_on start first c second one ∙ sym (sum_due start (first ++ second) all whole)

-- and in any number of stretches
pub cut_in_many : (start : ℕ) (stretches : List (List ℕ)) (sum all : ℕ)
    → InTurn Sums start stretches sum → Sums start (flatten stretches) all → sum ≡ all
cut_in_many start stretches sum all turns whole = due_in_turn start stretches sum turns ∙ sym (sum_due start (flatten stretches) all whole)

-- at its ends: a stretch of no bytes answers what it starts from
pub of_nothing : (start sum : ℕ) → Sums start [] sum → sum ≡ start
unfolding remainder
of_nothing start sum one = sum_due start [] sum one

-- A frame or an envelope that comes in stretches, up to its last two bytes at n: these are the checksum of those before them exactly if all,
-- summed in turn, give 0.
pub closes_in_turn : (start : ℕ) (s : List ℕ) (n : ℕ) (stretches : List (List ℕ)) (sum : ℕ) → start < 65536 → Bytes s → n + 2 ≤ length s
    → flatten stretches ≡ take (n + 2) s → InTurn Sums start stretches sum
    → eqb (of_le (field s n 2)) (crc_from start (take n s)) ≡ eqb sum 0
closes_in_turn start s n stretches sum h hb some cut turns =
    closes_at start s n h hb some
    ∙ ap (λ (k : ℕ). eqb k 0) (sym (due_in_turn start stretches sum turns ∙ ap (crc_from start) cut))

-- ---- and there are such calls
-- a reference, wherever it points
abbrev ref : {A : Type 0} → A → Bor A
ref value = record { ref_ptr = (0, 0); now = value }

call_with : (start : ℕ) (bytes : List ℕ) → Sums start bytes (crc_from start bytes)
call_with start bytes = of_checksum_from ([], tt) (start, (ref bytes, tt)) (crc_from start bytes) (start, (ref bytes, tt)) refl

pub calls_with : (start : ℕ) (stretches : List (List ℕ)) → (sum : ℕ) × InTurn Sums start stretches sum
unfolding InTurn
calls_with start [] = (start, refl)
calls_with start (bytes ∷ more) =
    let c = crc_from start bytes in
    let rest = calls_with c more in
    (rest.0, (c, call_with start bytes, rest.1))
