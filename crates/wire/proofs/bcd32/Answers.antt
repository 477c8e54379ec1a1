-- `wire::bcd32` meets its contract.
-- the most significant first, as the code adds the digits up, and as `number` does
use mathlib.Core.Path.{◌≡◌, ◌∙◌}
use Prim.Native.Nat.{ℕ, ◌+◌, ◌*◌}
use native.Mathlib.Omega.{arith}
use Rattle.wire.specs.Numbers.{of_bcd, number, field}
use Rattle.wire.proofs.bcd32.Goals as goal

joined : (a b c d : ℕ) → ((a * 100 + b) * 100 + c) * 100 + d ≡ d + 100 * (c + 100 * (b + 100 * (a + 100 * 0)))
joined a b c d = omega arith

pub returns : goal.returns
unfolding of_bcd number field
returns c = joined _ _ _ _ ∙ (cc)
