-- `pulsar_body::body_fault` meets its contract.
use mathlib.Core.Path.{refl, ap, ◌∙◌}
use Rattle.std.proofs.lemmas.Result.{err_from_is_err_and}
use Rattle.wire.specs.Numbered.{refusal}
use Rattle.wire.proofs.Answer.{refuses, passes}
use Rattle.pulsar_body.specs.Body.{bad_length}
use Rattle.pulsar_body.specs.declared.Form.{Form}
use Rattle.pulsar_body.proofs.Laws.{body_width_refused, body_unknown, body_known}
use Rattle.pulsar_body.proofs.body_fault.Goals as goal

pub returns-in_err-width : goal.returns-in_err-width
returns-in_err-width g c =
    let p = err_from_is_err_and c.from_residual.result c.from_residual.ensures.1 in
    rw (p.1, p.2) (body_width_refused g.F.Formed.the_form c.args.width c.args.mask c.args.body.now c.args.function _ c.in_err-width.ensures)

pub returns-in_err-known : goal.returns-in_err-known
returns-in_err-known g c =
    let p = err_from_is_err_and c.from_residual-in_err-known.result c.from_residual-in_err-known.ensures.1 in
    let w = c.in_ok-width in
    rw (p.1, p.2) (body_unknown g.F.Formed.the_form c.args.width c.args.mask c.args.body.now c.args.function w.width.bytes _ c.in_err-known.ensures.value w.ensures w.width.good)

pub returns-then-has_bad_length : goal.returns-then-has_bad_length
unfolding refusal
returns-then-has_bad_length g c =
    let a = c.args in
    let w = c.in_ok-width in
    let k = c.in_ok-known in
    body_known g.F.Formed.the_form a.width a.mask a.body.now a.function k.known w.width.bytes _ k.ensures.ok_part w.ensures w.width.good
    (refuses k.known _ _ 11 0 _ (c.has_bad_length.ensures ∙ ap (λ (f : Form). bad_length f w.width.bytes a.mask a.body.now) c.form.ensures) c.if-has_bad_length.true refl)

pub returns : goal.returns
returns g c =
    let a = c.args in
    let w = c.in_ok-width in
    let k = c.in_ok-known in
    body_known g.F.Formed.the_form a.width a.mask a.body.now a.function k.known w.width.bytes _ k.ensures.ok_part w.ensures w.width.good
    (passes k.known _ _ 11 0 _ (c.has_bad_length.ensures ∙ ap (λ (f : Form). bad_length f w.width.bytes a.mask a.body.now) c.form.ensures) c.if-has_bad_length.false refl)
