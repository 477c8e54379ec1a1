-- `adi_reply::registers_after` meets its contract. The loop's invariant: the group is the one from here on that those not passed yet stand before.
use mathlib.Core.Path.{◌≡◌}
use mathlib.Core.List.{[]}
use Prim.Native.Nat.{◌-◌}
use lib.ListN.{get_or, drop}
use Rattle.adi.specs.Groups.{groups}
use Rattle.adi_reply.specs.Layout.{typed}
use Rattle.adi_reply.proofs.registers_after.Given as goal

abbrev pub invariant-loop : goal.invariant-loop
invariant-loop l = get_or (groups typed (drop l.at l.body)) (l.k - l.counter) [] ≡ get_or (groups typed l.body) l.k []
