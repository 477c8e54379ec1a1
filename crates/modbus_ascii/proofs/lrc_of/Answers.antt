-- `modbus_ascii::lrc_of` meets its contract.
use mathlib.Core.Path.{ap, ◌∙◌}
use Prim.Native.Nat.{ℕ}
use Rattle.checksum.specs.Sums.{sum_from, closing}
use Rattle.modbus_ascii.proofs.Steps.{sum_content}
use Rattle.modbus_ascii.proofs.lrc_of.Goals as goal

pub returns : goal.returns
returns c =
    let m = c.args.m.now in
    c.lrc.ensures
    ∙ ap closing
    (c.sum_from.ensures
    ∙ ap (λ (n : ℕ). sum_from n m.«data».now) c.sum_byte.ensures
    ∙ sum_content m.address m.function m.«data».now)
