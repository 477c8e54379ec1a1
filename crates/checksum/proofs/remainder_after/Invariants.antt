-- `checksum::remainder_after` meets its contract. The loop's invariant: the bytes that are left, after the remainder as it is, give the answer.
use mathlib.Core.Path.{◌≡◌}
use lib.ListN.{drop}
use Rattle.checksum.specs.Crc.{remainder}
use Rattle.checksum.proofs.remainder_after.Given as goal

abbrev pub invariant-loop-b : goal.invariant-loop-b
invariant-loop-b g l = remainder g.F.Fours.poly l.c (drop l.b-index l.bytes) ≡ remainder g.F.Fours.poly l.start l.bytes
