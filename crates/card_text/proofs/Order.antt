-- 16 just where the output is shorter than the text, for the header, a line and many lines.
-- Assumes nothing.
use mathlib.Core.List.{List}
use Prim.Native.Nat.{ℕ}
use Rattle.wire.specs.Refusal.{first, FirstInOrder}
use Rattle.wire.specs.Writes.{Written, Writes, told_written}
use Rattle.wire.proofs.Writes.{written_first}
use Rattle.card_text.specs.Line.{room_rules}

pub room_first : (text out : List ℕ) (r : Written) (out' : List ℕ) → Writes (first (room_rules text out)) text out r out'
    → FirstInOrder (room_rules text out) (told_written r).number
room_first text out r out' w = written_first (room_rules text out) _ out r out' tt w
