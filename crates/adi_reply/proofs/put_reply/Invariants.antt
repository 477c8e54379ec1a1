-- `adi_reply::put_reply` meets its contract. The loop's invariant: with what is left to store, all is stored.
use mathlib.Core.Path.{◌≡◌}
use Prim.Native.Nat.{◌+◌, ◌*◌}
use lib.ListN.{length, drop}
use lib.Seq.{sets}
use Rattle.adi_reply.specs.Layout.{body_bytes}
use Rattle.adi_reply.specs.Writing.{cut, total}
use Rattle.adi_reply.proofs.put_reply.Given as goal

abbrev pub invariant-loop-n : goal.invariant-loop-n
invariant-loop-n l =
    record {
      stored : sets l.out l.at (body_bytes (cut (drop l.n-index l.lengths) l.left)) ≡ sets l.initial.out 2 (body_bytes (cut l.lengths l.fn.registers));
      all : total (drop l.n-index l.lengths) ≡ length l.left;
      place : l.at + length l.left ≡ l.n-index * 2 + length l.fn.registers + 2;
    }
