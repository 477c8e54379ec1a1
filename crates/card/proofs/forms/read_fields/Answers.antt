-- `card::forms::read_fields` meets its contract.
use mathlib.Core.Path.{◌≡◌, refl, sym, ap, ◌∙◌}
use mathlib.Core.Bool.{false}
use Prim.Native.Nat.{ℕ}
use Rattle.std.specs.Prelude.{Ok}
use Rattle.wire.specs.Answer.{judged}
use Rattle.wire.specs.Numbered.{refusal}
use Rattle.wire.specs.Refusal.{first}
use Rattle.wire.proofs.Answer.{refuses, passes, handed_on, none_judged, judged_none}
use Rattle.card.specs.Reading.{other_length, field_rules}
use Rattle.card.specs.declared.fields.Fields.{Fields}
use Rattle.card.proofs.Widths.{found_fields, form_length}
use Rattle.card.proofs.forms.read_fields.Goals as goal

pub returns-then-other_length : goal.returns-then-other_length
unfolding refusal
returns-then-other_length g c =
    let long = c.other_length.ensures ∙ ap (λ (n : ℕ). other_length n c.args.bytes.now) (c.SIZE.ensures ∙ g.met.F.CardForm.laid.bytes) in
    refuses _ _ _ 50 _ _ long c.if-other_length.true refl

pub returns-then-spare_set : goal.returns-then-spare_set
unfolding refusal
returns-then-spare_set g c =
    let long : other_length g.F.CardForm.form.size c.args.bytes.now ≡ false = search (form_length, g.met.F.CardForm.laid.bytes) in
    passes _ _ _ 50 _ _ refl long (refuses _ _ _ 51 _ _ c.spare_set.ensures c.if-spare_set.true refl)

pub returns-in_err-judge_fields : goal.returns-in_err-judge_fields
returns-in_err-judge_fields g c =
    let long = c.other_length.ensures ∙ ap (λ (n : ℕ). other_length n c.args.bytes.now) (c.SIZE.ensures ∙ g.met.F.CardForm.laid.bytes) in
    let found = found_fields c.args.bytes.now _ _ c.first_bytes-card.ensures c.fields_of-f.ensures in
    let judged = c.in_err-judge_fields.ensures ∙ ap (λ (f : Fields). judged tt (first (field_rules f))) found in
    passes _ _ _ 50 _ _ long c.if-other_length.false (passes _ _ _ 51 _ _ c.spare_set.ensures c.if-spare_set.false (handed_on _ tt _ _ _ c.from_residual.ensures judged))

pub returns : goal.returns
returns g c =
    let long = c.other_length.ensures ∙ ap (λ (n : ℕ). other_length n c.args.bytes.now) (c.SIZE.ensures ∙ g.met.F.CardForm.laid.bytes) in
    let found = found_fields c.args.bytes.now _ _ c.first_bytes-card.ensures c.fields_of-f.ensures in
    let none = none_judged tt _ tt (c.in_ok-judge_fields.ensures ∙ ap (λ (f : Fields). judged tt (first (field_rules f))) found) in
    passes _ _ _ 50 _ _ long c.if-other_length.false (passes _ _ _ 51 _ _ c.spare_set.ensures c.if-spare_set.false (ap Ok found ∙ sym (judged_none _ _ none)))
