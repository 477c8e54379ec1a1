-- `pulsar_body::write_body` meets its contract.
use mathlib.Core.Path.{◌≡◌, refl, sym, ap, ◌∙◌}
use mathlib.Core.List.{◌++◌}
use lib.ListN.{length}
use Rattle.std.proofs.lemmas.Result.{err_from_is_err_and}
use Rattle.wire.proofs.Answer.{none_judged}
use Rattle.wire.proofs.Bools.{true_T}
use Rattle.wire.proofs.Rules.{named_numbered}
use Rattle.wire.proofs.Writes.{writes_judged, writes_all}
use Rattle.pulsar_body.specs.declared.Form.{Form}
use Rattle.pulsar_body.proofs.Laws.{counted, stored, values_refused, fields_refused, room_judged}
use Rattle.pulsar_body.proofs.RoundTrip.{writing_fits, writing_tells}
use Rattle.pulsar_body.proofs.write_body.Goals as goal

pub returns-in_err-values_fault : goal.returns-in_err-values_fault
returns-in_err-values_fault g c =
    let a = c.args in
    let b = g.B.Body in
    let form = c.form-form in
    let p = err_from_is_err_and c.from_residual.result c.from_residual.ensures.1 in
    rw (p.1, p.2) (writes_judged _ _ (tt {0}) _ _ _ (values_refused (g.B.Formed.the_form a.body).values form.result.values a.width a.mask a.mask a.values.now (b.faults a.body a.mask) (length (b.head a.body ++ a.values.now)) (length a.out.now) (ap (λ (f : Form). f.values) form.ensures) refl _ c.in_err-values_fault.ensures) refl
    (writing_tells (g.B.Formed.the_form a.body).values a.width a.mask a.values.now (b.faults a.body a.mask) (length (b.head a.body ++ a.values.now)) (length a.out.now) (g.met.B.Body.faults_named a.body a.mask)))

pub returns-in_err-fields_fault : goal.returns-in_err-fields_fault
returns-in_err-fields_fault g c =
    let a = c.args in
    let b = g.B.Body in
    let form = c.form-form in
    let p = err_from_is_err_and c.from_residual-in_err-fields_fault.result c.from_residual-in_err-fields_fault.ensures.1 in
    rw (p.1, p.2) (writes_judged _ _ (tt {0}) _ _ _ (fields_refused (g.B.Formed.the_form a.body).values form.result.values a.width a.mask a.mask a.values.now (b.faults a.body a.mask) (length (b.head a.body ++ a.values.now)) (length a.out.now) (ap (λ (f : Form). f.values) form.ensures) refl _ c.in_ok-values_fault.ensures c.in_err-fields_fault.ensures) refl
    (writing_tells (g.B.Formed.the_form a.body).values a.width a.mask a.values.now (b.faults a.body a.mask) (length (b.head a.body ++ a.values.now)) (length a.out.now) (g.met.B.Body.faults_named a.body a.mask)))

pub returns-in_err-room_fault : goal.returns-in_err-room_fault
returns-in_err-room_fault g c =
    let a = c.args in
    let b = g.B.Body in
    let form = c.form-form in
    let p = err_from_is_err_and c.from_residual-in_err-room_fault.result c.from_residual-in_err-room_fault.ensures.1 in
    rw (p.1, p.2) (writes_judged _ _ (tt {0}) _ _ _ (room_judged (g.B.Formed.the_form a.body).values form.result.values a.width a.mask a.mask a.values.now (b.faults a.body a.mask) (length (b.head a.body ++ a.values.now)) (length a.out.now) (ap (λ (f : Form). f.values) form.ensures) refl _ _ c.in_ok-values_fault.ensures (named_numbered (b.faults a.body a.mask) (true_T _ (g.met.B.Body.faults_named a.body a.mask))) c.in_ok-fields_fault.ensures
    (counted (b.head a.body) a.values.now _ (ap (λ (f : Form). f.head) form.ensures ∙ sym (g.met.B.Body.head_length a.body))) c.in_err-room_fault.ensures) refl
    (writing_tells (g.B.Formed.the_form a.body).values a.width a.mask a.values.now (b.faults a.body a.mask) (length (b.head a.body ++ a.values.now)) (length a.out.now) (g.met.B.Body.faults_named a.body a.mask)))

pub returns : goal.returns
returns g c =
    let a = c.args in
    let b = g.B.Body in
    let form = c.form-form in
    let numbers = named_numbered (b.faults a.body a.mask) (true_T _ (g.met.B.Body.faults_named a.body a.mask)) in
    let found : form.result.head ≡ length (b.head a.body) = ap (λ (f : Form). f.head) form.ensures ∙ sym (g.met.B.Body.head_length a.body) in
    let none =
    none_judged (tt {0}) _ (tt {0})
    (room_judged (g.B.Formed.the_form a.body).values form.result.values a.width a.mask a.mask a.values.now (b.faults a.body a.mask) (length (b.head a.body ++ a.values.now)) (length a.out.now) (ap (λ (f : Form). f.values) form.ensures) refl _ _ c.in_ok-values_fault.ensures numbers c.in_ok-fields_fault.ensures (counted (b.head a.body) a.values.now _ found) c.in_ok-room_fault.ensures) in
    let fits = writing_fits (g.B.Formed.the_form a.body).values a.width a.mask a.values.now (b.faults a.body a.mask) (length (b.head a.body ++ a.values.now)) (length a.out.now) numbers none in
    writes_all _ _ _ _ _ (sym none)
    (counted (b.head a.body) a.values.now _ found)
    (stored (b.head a.body) a.values.now _ found a.out.now _ _ c.put_head.ensures c.put_all.ensures fits)
