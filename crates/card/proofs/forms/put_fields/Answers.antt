-- `card::forms::put_fields` meets its contract.
use mathlib.Core.Path.{ap, ◌∙◌}
use Prim.Native.Nat.{◌-◌}
use lib.ListN.{drop}
use lib.Seq.{sets}
use Rattle.card.proofs.Written.{form_stored}
use Rattle.card.proofs.forms.put_fields.Goals as goal

pub returns : goal.returns
returns g c =
    let laid = g.met.F.CardForm.laid in
    form_stored g.F.CardForm.form _ (c.SIZE-size.ensures ∙ laid.bytes) laid.least laid.most _ _ _ c.args.out.now _ _ _ _ _ _ c.widths-widths.ensures c.field_values-values.ensures
    c.word_before.ensures c.put_word.ensures c.word_before-2.ensures c.put_word-2.ensures c.word_before-3.ensures
    (c.put_all.ensures ∙ ap (sets c.put_word-2.new.out 16) (c.rest.ensures ∙ ap (drop (24 - c.SIZE-size.result)) c.to_be_bytes-last.ensures))
