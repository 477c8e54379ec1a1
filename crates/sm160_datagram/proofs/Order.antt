-- Demand 1 of the numbers that are told; and the rules of the datagram before others.
-- Assumes nothing.
use mathlib.Core.Path.{◌≡◌, refl}
use mathlib.Core.List.{List, ◌++◌}
use Prim.Native.Nat.{ℕ}
use Rattle.wire.specs.Refusal.{Rule, NoneHolds, FirstInOrder}
use Rattle.std.specs.Prelude.{Result, Ok}
use Rattle.wire.specs.Answer.{refuse, judged, told_judged}
use Rattle.wire.specs.Writes.{Written, told_written}
use Rattle.wire.specs.declared.refusals.Refusal.{Refusal}
use Rattle.wire.proofs.Answer.{named_first, judged_first}
use Rattle.wire.proofs.Rules.{refusal_law, none_append, none_both, first_none, none_first}
use Rattle.wire.proofs.Writes.{written_first}
use Rattle.sm160_datagram.specs.Layout.{type_of}
use Rattle.sm160_datagram.specs.Reading.{datagram_rules, datagram_fault, read_datagram, told_datagram_read}
use Rattle.sm160_datagram.specs.Writing.{write_rules, WritesDatagram}
use Rattle.sm160_datagram.specs.Layout.{datagram_bytes}

pub datagram_number_first : (d : List ℕ) → FirstInOrder (datagram_rules d) (datagram_fault d)
unfolding datagram_fault
datagram_number_first d = refusal_law (datagram_rules d) tt

-- r is what `datagram_fault` answers, and `fault_of`
pub datagram_fault_first : (d : List ℕ) (r : Result Unit Refusal) → r ≡ judged tt (datagram_fault d) → FirstInOrder (datagram_rules d) (told_judged r).number
unfolding datagram_fault
datagram_fault_first d r e = judged_first (datagram_rules d) r tt e

pub read_datagram_first : (d : List ℕ) → FirstInOrder (datagram_rules d) (told_datagram_read (read_datagram d)).number
unfolding read_datagram datagram_fault
read_datagram_first d = named_first refuse (Ok (type_of d)) (λ r. (told_datagram_read r).number) (λ n. refl) (datagram_rules d) tt refl

pub write_datagram_first : (type : ℕ) (options content out : List ℕ) (r : Written) (out' : List ℕ) → WritesDatagram type options content out r out'
    → FirstInOrder (write_rules options content out) (told_written r).number
write_datagram_first type options content out r out' w =
    written_first (write_rules options content out) (datagram_bytes type options content) out r out' tt w

-- ---- among other rules
module _ (d : List ℕ) (rs : List Rule) where
  -- where none holds, d is a datagram and none of the others holds; and back
  pub datagram_none : NoneHolds (datagram_rules d ++ rs) → (datagram_fault d ≡ 0) × NoneHolds rs
  unfolding datagram_fault
  datagram_none h =
      let both = none_append (datagram_rules d) rs h in
      (first_none (datagram_rules d) both.0, both.1)

  pub none_datagram : datagram_fault d ≡ 0 → NoneHolds rs → NoneHolds (datagram_rules d ++ rs)
  unfolding datagram_fault
  none_datagram e h = none_both (datagram_rules d) rs (none_first (datagram_rules d) tt e) h
