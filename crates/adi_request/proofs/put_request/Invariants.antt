-- `adi_request::put_request` meets its contract. The loop's invariant: with what is left to store, all is stored.
use mathlib.Core.Path.{◌≡◌}
use Prim.Native.Nat.{◌+◌, ◌*◌}
use lib.ListN.{drop}
use lib.Seq.{sets}
use Rattle.adi_request.specs.Layout.{body_bytes}
use Rattle.adi_request.specs.Writing.{given}
use Rattle.adi_request.proofs.put_request.Given as goal

abbrev pub invariant-loop-i : goal.invariant-loop-i
invariant-loop-i l = sets l.out (l.i * 7 + 2) (body_bytes (given (drop l.i l.groups))) ≡ sets l.initial.out 2 (body_bytes (given l.groups))
