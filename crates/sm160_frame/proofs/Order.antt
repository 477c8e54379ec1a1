-- Demand 1 of the number that a frame is judged with, of the number that reading tells and of the number that writing tells.
-- Assumes nothing.
use mathlib.Core.Path.{◌≡◌, refl}
use mathlib.Core.List.{List}
use Prim.Native.Nat.{ℕ}
use Rattle.wire.specs.Refusal.{FirstInOrder}
use Rattle.std.specs.Prelude.{Result, Ok}
use Rattle.wire.specs.Answer.{refuse, judged, told_judged}
use Rattle.wire.specs.Writes.{Written, told_written}
use Rattle.wire.specs.declared.refusals.Refusal.{Refusal}
use Rattle.wire.proofs.Answer.{named_first, judged_first}
use Rattle.wire.proofs.Rules.{in_order}
use Rattle.wire.proofs.Writes.{written_first}
use Rattle.sm160_frame.specs.Layout.{frame_bytes}
use Rattle.sm160_frame.specs.Reading.{LARGEST, frame_rules, frame_fault, fields_of, read_frame, told_frame_read}
use Rattle.sm160_frame.specs.Writing.{write_rules, WritesFrame}

pub frame_number_first : (limit : ℕ) (s : List ℕ) → FirstInOrder (frame_rules limit s) (frame_fault limit s)
unfolding frame_fault
frame_number_first limit s = in_order (frame_rules limit s) _ tt refl

-- r is what `frame_fault` answers
pub frame_fault_first : (limit : ℕ) (s : List ℕ) (r : Result Unit Refusal) → r ≡ judged tt (frame_fault limit s) → FirstInOrder (frame_rules limit s) (told_judged r).number
unfolding frame_fault
frame_fault_first limit s r e = judged_first (frame_rules limit s) r tt e

pub frame_read_first : (s : List ℕ) → FirstInOrder (frame_rules LARGEST s) (told_frame_read (read_frame s)).number
unfolding read_frame frame_fault
frame_read_first s = named_first refuse (Ok (fields_of s)) (λ r. (told_frame_read r).number) (λ n. refl) (frame_rules LARGEST s) tt refl

pub frame_write_first : (session offset flags : ℕ) (part out : List ℕ) (r : Written) (out' : List ℕ)
    → WritesFrame session offset flags part out r out' → FirstInOrder (write_rules flags part out) (told_written r).number
frame_write_first session offset flags part out r out' w =
    written_first (write_rules flags part out) (frame_bytes session offset flags part) out r out' tt w
