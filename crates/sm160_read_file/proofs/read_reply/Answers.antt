-- `sm160_read_file::read_reply` meets its contract.
use mathlib.Core.Path.{ap, ◌∙◌}
use Prim.Native.Nat.{ℕ}
use Rattle.std.specs.Prelude.{Ok}
use Rattle.wire.specs.Numbered.{refusal}
use Rattle.wire.proofs.Answer.{refuses, passes}
use Rattle.sm160_datagram.specs.Layout.{options_of}
use Rattle.sm160_read_file.specs.Layout.{REPLY, message_at, status_of}
use Rattle.sm160_read_file.specs.Reading.{bad_text, bad_reply, read_reply}
use Rattle.sm160_read_file.proofs.Order.{refused_before, judged_after}
use Rattle.sm160_read_file.proofs.read_reply.Goals as goal

pub returns-in_err-type_fault : goal.returns-in_err-type_fault
unfolding read_reply
returns-in_err-type_fault c =
    refused_before (status_of (options_of c.args.bytes.now)) REPLY (bad_reply c.args.bytes.now) c.args.bytes.now _ _ c.from_residual.ensures c.in_err-type_fault.ensures

pub returns-then-bad_text : goal.returns-then-bad_text
unfolding read_reply refusal
returns-then-bad_text c =
    let d = c.args.bytes.now in
    let bad = c.bad_text.ensures ∙ ap (bad_text message_at) c.options_of-options.ensures in
    judged_after (status_of (options_of d)) REPLY (bad_reply d) d _ c.in_ok-type_fault.ensures (search refuses depth 12)

pub returns : goal.returns
unfolding read_reply
returns c =
    let d = c.args.bytes.now in
    let bad = c.bad_text.ensures ∙ ap (bad_text message_at) c.options_of-options.ensures in
    let status = ap (λ (n : ℕ). Ok n) (c.le32_at.ensures ∙ ap status_of c.options_of-options.ensures) in
    judged_after (status_of (options_of d)) REPLY (bad_reply d) d _ c.in_ok-type_fault.ensures (passes _ _ _ _ _ _ bad c.if-bad_text.false status)
