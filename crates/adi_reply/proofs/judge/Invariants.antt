-- `adi_reply::judge` meets its contract. The loop's invariant: with the lengths that are left, the answer so far is the answer.
use mathlib.Core.Path.{◌≡◌}
use mathlib.Core.Bool.{◌||◌}
use lib.ListN.{drop}
use Rattle.std.specs.List.{list_any}
use Rattle.adi_reply.specs.Reading.{not_even_from2}
use Rattle.adi_reply.proofs.judge.Given as goal

abbrev pub invariant-loop-n : goal.invariant-loop-n
invariant-loop-n l = (l.faulty || list_any not_even_from2 (drop l.n-index l.lengths)) ≡ list_any not_even_from2 l.lengths
