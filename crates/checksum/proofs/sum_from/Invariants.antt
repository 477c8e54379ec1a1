-- `checksum::sum_from` meets its contract. The loop's invariant: the bytes that are left, after the sum as it is, give the answer.
use mathlib.Core.Path.{◌≡◌}
use Prim.Native.Nat.{◌<◌}
use lib.ListN.{drop}
use Rattle.checksum.specs.Sums.{sum_from}
use Rattle.checksum.proofs.sum_from.Given as goal

abbrev pub invariant-loop-b : goal.invariant-loop-b
invariant-loop-b l = (l.c < 256) × (sum_from l.c (drop l.b-index l.bytes) ≡ sum_from l.sum l.bytes)
