-- `adi_reply::judge` meets its contract.
use mathlib.Core.Path.{refl, sym, ap, ◌∙◌}
use Rattle.wire.specs.Answer.{judged}
use Rattle.wire.specs.Numbered.{refusal}
use Rattle.wire.proofs.Answer.{refuses, passes}
use Rattle.adi_reply.proofs.Judging.{any_faulty, any_end}
use Rattle.adi_reply.proofs.judge.Goals as goal

pub returns-then-bad_number : goal.returns-then-bad_number
unfolding refusal
returns-then-bad_number c = search (refuses, passes) depth 12

pub returns-then-faulty : goal.returns-then-faulty
unfolding refusal
returns-then-faulty c =
    let l = c.loop-n in
    let f = any_end c.args.lengths.now l.n-index l.faulty c.loop-n-test.false l.invariant in
    passes _ _ _ _ _ _ c.bad_number.ensures c.if-bad_number.false
    (refuses _ _ _ 83 0 _ f c.if-faulty.true refl ∙ ap (judged tt) (sym (any_faulty c.args.lengths.now)))

pub returns : goal.returns
returns c =
    let l = c.loop-n in
    let f = any_end c.args.lengths.now l.n-index l.faulty c.loop-n-test.false l.invariant in
    passes _ _ _ _ _ _ c.bad_number.ensures c.if-bad_number.false
    (passes _ _ _ 83 0 _ f c.if-faulty.false refl ∙ ap (judged tt) (sym (any_faulty c.args.lengths.now)))
