-- `pulsar_body::values_fault` meets its contract.
use Prim.Native.Nat.{ℕ}
use mathlib.Core.List.{[], ◌∷◌}
use Rattle.wire.specs.Numbered.{refusal}
use Rattle.wire.specs.Refusal.{◌when◌, first}
use Rattle.wire.proofs.Answer.{handed_on, refuses, passes}
use Rattle.pulsar_body.specs.Body.{bad_values}
use Rattle.pulsar_body.proofs.Laws.{width_refused, width_passed}
use Rattle.pulsar_body.proofs.values_fault.Goals as goal

pub returns-in_err-width : goal.returns-in_err-width
returns-in_err-width c =
    handed_on _ _ _ _ _ c.from_residual.ensures (width_refused (tt {0}) c.args.width _ _ c.in_err-width.ensures)

pub returns-then-are_bad : goal.returns-then-are_bad
unfolding refusal
returns-then-are_bad c =
    let a = c.args in
    let w = c.in_ok-width in
    width_passed tt w.width.bytes a.width (λ (k : ℕ). first (11 when bad_values a.due k a.mask a.values.now ∷ [])) _ w.ensures w.width.good
    (search (refuses, passes) depth 12)

pub returns : goal.returns
returns c =
    let a = c.args in
    let w = c.in_ok-width in
    width_passed tt w.width.bytes a.width (λ (k : ℕ). first (11 when bad_values a.due k a.mask a.values.now ∷ [])) _ w.ensures w.width.good
    (search passes depth 12)
