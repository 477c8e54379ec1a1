-- `wire::be16_at` meets its contract.
-- the higher byte first, as the code adds them up
use mathlib.Core.Path.{◌≡◌}
use mathlib.Core.List.{List}
use lib.ListN.{get_or}
use Prim.Native.Nat.{ℕ, ◌+◌, ◌*◌}
use native.Mathlib.Omega.{arith}
use Rattle.wire.specs.Numbers.{of_be, number, field}
use Rattle.wire.proofs.Turns.{read_at}
use Rattle.wire.proofs.be16_at.Goals as goal

two : (p : List ℕ) (a b : ℕ) → a ≡ get_or p 0 0 → b ≡ get_or p 1 0 → a * 256 + b ≡ of_be (field p 0 2)
unfolding of_be number field
two p a b ea eb = omega arith

pub returns : goal.returns
returns c =
    read_at of_be _ _ _ 2 _ (two _ _ _ c.byte_at.ensures c.byte_at-2.ensures) c.rest-p.ensures
