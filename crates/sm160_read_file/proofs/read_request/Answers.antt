-- `sm160_read_file::read_request` meets its contract.
use mathlib.Core.Path.{ap, ap₂, ◌∙◌}
use Prim.Native.Nat.{ℕ}
use Rattle.std.specs.Prelude.{Ok}
use Rattle.wire.specs.Numbered.{refusal}
use Rattle.wire.proofs.Answer.{refuses, passes}
use Rattle.sm160_read_file.specs.Layout.{REQUEST, offset_of, size_of}
use Rattle.sm160_read_file.specs.Reading.{bad_request, request_of, read_request}
use Rattle.sm160_read_file.proofs.Order.{request, refused_before, judged_after, well_formed}
use Rattle.sm160_read_file.proofs.read_request.Goals as goal

pub bad_request-requires : goal.bad_request-requires
bad_request-requires c = (well_formed REQUEST c.args.bytes.now c.in_ok-type_fault.ensures, c.options_of-options.ensures)

pub returns-in_err-type_fault : goal.returns-in_err-type_fault
unfolding read_request
returns-in_err-type_fault c =
    refused_before (request_of c.args.bytes.now) REQUEST (bad_request c.args.bytes.now) c.args.bytes.now _ _ c.from_residual.ensures c.in_err-type_fault.ensures

pub returns-then-bad_request : goal.returns-then-bad_request
unfolding read_request refusal
returns-then-bad_request c =
    let d = c.args.bytes.now in
    judged_after (request_of d) REQUEST (bad_request d) d _ c.in_ok-type_fault.ensures (search refuses depth 12)

pub returns : goal.returns
unfolding read_request
returns c =
    let d = c.args.bytes.now in
    let options = c.options_of-options.ensures in
    let request = ap₂ (λ (x y : ℕ). Ok (request x y)) (c.le64_at.ensures ∙ ap offset_of options) (c.le64_at-2.ensures ∙ ap size_of options) in
    judged_after (request_of d) REQUEST (bad_request d) d _ c.in_ok-type_fault.ensures (passes _ _ _ _ _ _ c.bad_request.ensures c.if-bad_request.false request)
