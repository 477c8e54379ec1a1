-- `archive_card::to_card` meets its contract.
use mathlib.Core.Path.{refl, sym, ap, ◌∙◌}
use Prim.Native.Nat.{◌<◌}
use lib.Seq.{sets}
use Rattle.wire.specs.Numbered.{refusal}
use Rattle.wire.proofs.Answer.{none_judged}
use Rattle.wire.proofs.Each.{each_get_d}
use Rattle.wire.proofs.Rules.{none_first, first_named, hit}
use Rattle.wire.proofs.Writes.{writes_refused, writes_all}
use Rattle.card.proofs.Judged.{writes_handed}
use Rattle.card.proofs.Written.{length_card}
use Rattle.archive_card.specs.Moving.{old_rules}
use Rattle.archive_card.proofs.Moving.{old_stored}
use Rattle.archive_card.proofs.to_card.Goals as goal

pub returns-then-other_length : goal.returns-then-other_length
unfolding refusal
returns-then-other_length c = writes_refused _ _ 49 _ _ (hit _ _ 50 _ c.other_length.ensures c.if-other_length.true) refl refl

pub returns-in_err-judge_back : goal.returns-in_err-judge_back
returns-in_err-judge_back c =
    let a = c.args in
    writes_handed tt _ _ _ _ _ c.from_residual.ensures c.in_err-judge_back.ensures (first_named (old_rules a.bytes.now a.out.now) tt)

pub returns : goal.returns
returns c =
    let a = c.args in
    let s = a.bytes.now in
    let none = none_judged tt _ tt c.in_ok-judge_back.ensures in
    let bytes = each_get_d (λ b. b < 256) s (λ i. (c.type_inv.bytes i).fits) in
    writes_all _ _ _ _ _ (sym none) (sym (length_card _))
    (old_stored s bytes a.out.now _ (none_first (old_rules s a.out.now) tt none) (c.put_all.ensures ∙ ap (sets a.out.now 0) c.first_bytes-card.ensures))
