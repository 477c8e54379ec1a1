-- `sm160_text::LineReader::expect` meets its contract. The loop's invariant: what is left, from here, is the whole.
use mathlib.Core.Path.{◌≡◌}
use lib.ListN.{drop}
use Rattle.wire.specs.Numbered.{number_of}
use Rattle.sm160_text.specs.Walk.{characters}
use Rattle.sm160_text.proofs.LineReader.expect.Given as goal

abbrev pub invariant-loop-c : goal.invariant-loop-c
invariant-loop-c l =
    (l.self.bytes ≡ l.initial.self.bytes)
    × (characters l.self.bytes.now l.self.place (drop l.c-index l.cs) (number_of l.refusal) ≡ characters l.self.bytes.now l.initial.self.place l.cs (number_of l.refusal))
