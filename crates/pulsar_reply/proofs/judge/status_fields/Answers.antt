-- `pulsar_reply::judge::status_fields` meets its contract.
use mathlib.Core.Path.{ap, ◌∙◌}
use mathlib.Core.List.{[], ◌∷◌}
use Prim.Native.Nat.{ℕ}
use Rattle.wire.specs.Answer.{judged}
use Rattle.wire.specs.Numbered.{refusal}
use Rattle.wire.specs.Refusal.{◌when◌, first}
use Rattle.wire.proofs.Answer.{handed_on, refuses, passes}
use Rattle.pulsar_body.proofs.Laws.{stretch_refused, stretch_passed}
use Rattle.pulsar_reply.specs.Layout.{status_of}
use Rattle.pulsar_reply.specs.Fields.{not_three_zeros}
use Rattle.pulsar_reply.specs.Writing.{status_faults}
use Rattle.pulsar_reply.proofs.judge.status_fields.Goals as goal

pub returns-in_err-status_fault : goal.returns-in_err-status_fault
returns-in_err-status_fault c =
    let s = c.args.body.now in
    handed_on _ _ _ _ _ c.from_residual.ensures
    (stretch_refused (tt {0}) (status_faults (status_of s)) (15 when not_three_zeros s ∷ []) tt _
    (c.in_err-status_fault.ensures ∙ ap (λ (b : ℕ). judged {A = Unit {0}} tt (first (status_faults b))) c.byte_at.ensures))

pub returns-then-not_three_zeros : goal.returns-then-not_three_zeros
unfolding refusal
returns-then-not_three_zeros c =
    let s = c.args.body.now in
    stretch_passed (tt {0}) (status_faults (status_of s)) (15 when not_three_zeros s ∷ []) tt tt _ tt
    (c.in_ok-status_fault.ensures ∙ ap (λ (b : ℕ). judged {A = Unit {0}} tt (first (status_faults b))) c.byte_at.ensures)
    (search (refuses, passes) depth 12)

pub returns : goal.returns
returns c =
    let s = c.args.body.now in
    stretch_passed (tt {0}) (status_faults (status_of s)) (15 when not_three_zeros s ∷ []) tt tt _ tt
    (c.in_ok-status_fault.ensures ∙ ap (λ (b : ℕ). judged {A = Unit {0}} tt (first (status_faults b))) c.byte_at.ensures)
    (search passes depth 12)
