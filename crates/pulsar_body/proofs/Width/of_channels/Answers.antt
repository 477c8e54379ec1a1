-- `pulsar_body::Width::of_channels` meets its contract.
use mathlib.Core.Path.{ap}
use Prim.Native.Nat.{ℕ, ◌*◌}
use native.Mathlib.Omega.{arith}
use Rattle.pulsar_body.proofs.Laws.{channel_bytes_le}
use Rattle.pulsar_body.proofs.Width.of_channels.Goals as goal

pub overflow_mul-result : goal.overflow_mul-result
overflow_mul-result c =
    let e = ap (λ (n : ℕ). n * c.args.self.bytes) c.channel_count.ensures in
    omega (arith, channel_bytes_le c.args.mask c.args.self.bytes c.args.self.good)
