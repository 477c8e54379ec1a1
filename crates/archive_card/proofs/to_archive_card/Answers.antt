-- `archive_card::to_archive_card` meets its contract.
use mathlib.Core.Path.{refl, sym, ap, ◌∙◌}
use mathlib.Core.List.{[], ◌∷◌}
use Prim.Native.Nat.{◌<◌}
use lib.Seq.{sets}
use Rattle.wire.specs.Numbered.{refusal}
use Rattle.wire.specs.Refusal.{◌when◌}
use Rattle.wire.proofs.Answer.{none_judged}
use Rattle.wire.proofs.Each.{each_get_d}
use Rattle.wire.proofs.Rules.{none_first, hit, skip}
use Rattle.wire.proofs.Writes.{writes_refused, writes_all}
use Rattle.card.specs.Reading.{read_rules}
use Rattle.card.specs.Writing.{too_small}
use Rattle.card.proofs.Judged.{writes_more, writes_rest}
use Rattle.archive_card.proofs.Form.{length_archive}
use Rattle.archive_card.proofs.Moving.{new_stored}
use Rattle.archive_card.proofs.to_archive_card.Goals as goal

pub returns-then-other_length : goal.returns-then-other_length
unfolding refusal
returns-then-other_length c = writes_refused _ _ 49 _ _ (hit _ _ 50 _ c.other_length.ensures c.if-other_length.true) refl refl

pub returns-in_err-fault_of : goal.returns-in_err-fault_of
returns-in_err-fault_of c =
    let a = c.args in
    writes_more tt (read_rules a.bytes.now) (16 when too_small 18 a.out.now ∷ []) _ c.in_err-fault_of.ensures tt _ _ _ c.from_residual.ensures

pub returns-then-too_small : goal.returns-then-too_small
unfolding refusal
returns-then-too_small c =
    let a = c.args in
    writes_rest tt (read_rules a.bytes.now) (16 when too_small 18 a.out.now ∷ []) tt tt c.in_ok-fault_of.ensures _ _ _ _
    (writes_refused _ _ 15 _ _ (hit _ _ 16 0 c.too_small.ensures c.if-too_small.true) refl refl)

pub returns : goal.returns
returns c =
    let a = c.args in
    let s = a.bytes.now in
    let bytes = each_get_d (λ b. b < 256) s (λ i. (c.type_inv.bytes i).fits) in
    let good = none_first (read_rules s) tt (none_judged tt _ tt c.in_ok-fault_of.ensures) in
    writes_rest tt (read_rules s) (16 when too_small 18 a.out.now ∷ []) tt tt c.in_ok-fault_of.ensures _ _ _ _
    (writes_all _ _ _ _ _ (skip _ _ 16 0 0 c.too_small.ensures c.if-too_small.false refl) (sym (length_archive _ 0))
    (new_stored s bytes good a.out.now _ _ _ (c.put_all.ensures ∙ ap (sets a.out.now 0) c.first_bytes-card.ensures) c.put.ensures c.too_small.ensures c.if-too_small.false))
