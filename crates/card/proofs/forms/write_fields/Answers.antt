-- `card::forms::write_fields` meets its contract.
use mathlib.Core.Path.{refl, sym, ap, ◌∙◌}
use Prim.Native.Nat.{ℕ}
use Rattle.wire.specs.Numbered.{refusal}
use Rattle.wire.proofs.Rules.{hit, skip}
use Rattle.wire.proofs.Writes.{writes_refused, writes_all}
use Rattle.bits.specs.Fields.{joined}
use Rattle.bits.proofs.Bits.{length_bytes_of}
use Rattle.card.specs.Writing.{too_small}
use Rattle.card.proofs.Written.{form_over}
use Rattle.card.proofs.forms.write_fields.Goals as goal

pub returns-then-too_small : goal.returns-then-too_small
unfolding refusal
returns-then-too_small g c =
    let room = c.too_small.ensures ∙ ap (λ (n : ℕ). too_small n c.args.out.now) (c.SIZE.ensures ∙ g.met.F.CardForm.laid.bytes) in
    writes_refused _ _ 15 _ _ (hit _ _ 16 0 room c.if-too_small.true) refl refl

pub returns : goal.returns
returns g c =
    let room = c.too_small.ensures ∙ ap (λ (n : ℕ). too_small n c.args.out.now) (c.SIZE.ensures ∙ g.met.F.CardForm.laid.bytes) in
    writes_all _ _ _ _ _ (skip _ _ 16 0 0 room c.if-too_small.false refl) (c.SIZE-2.ensures ∙ g.met.F.CardForm.laid.bytes ∙ sym (length_bytes_of g.F.CardForm.form.size (joined _ _)))
    (c.put_fields.ensures ∙ form_over g.F.CardForm.form.size _ _ _ (length_bytes_of g.F.CardForm.form.size (joined _ _)) room c.if-too_small.false)
