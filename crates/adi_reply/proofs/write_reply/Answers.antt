-- `adi_reply::write_reply` meets its contract.
use mathlib.Core.Path.{◌≡◌}
use mathlib.Core.List.{List}
use Prim.Native.Nat.{ℕ, ◌+◌, ◌*◌, ◌≤◌}
use native.Mathlib.Omega.{arith}
use lib.ListN.{length}
use Rattle.std.specs.Prelude.{Result, Ok}
use Rattle.std.proofs.lemmas.Result.{err_from_is_err_and}
use Rattle.wire.specs.Answer.{judged}
use Rattle.wire.specs.declared.refusals.Refusal.{Refusal}
use Rattle.wire.proofs.Answer.{none_judged}
use Rattle.wire.specs.Refusal.{first}
use Rattle.adi.proofs.Room.{refused_judged, refused_16, stored}
use Rattle.adi_reply.specs.Layout.{reply_bytes}
use Rattle.adi_reply.specs.Writing.{cut, judge_rules}
use Rattle.adi_reply.proofs.Judging.{Good, judge_named, judge_numbered, judged_good}
use Rattle.adi_reply.proofs.Stores.{length_reply}
use Rattle.adi_reply.proofs.write_reply.Goals as goal

-- what the judge let through is good
accepted : (ns rs : List ℕ) → ◌≡◌ {A = Result Unit Refusal} (Ok tt) (judged tt (first (judge_rules ns rs))) → Good ns rs
accepted ns rs j = judged_good ns rs (none_judged tt _ tt j)

within : (ns rs : List ℕ) → ◌≡◌ {A = Result Unit Refusal} (Ok tt) (judged tt (first (judge_rules ns rs))) → length ns * 2 + length rs ≤ 245
within ns rs j = let g = accepted ns rs j in omega (arith, g.few, g.all)

pub returns-in_err-judge : goal.returns-in_err-judge
returns-in_err-judge c =
    let p = err_from_is_err_and c.from_residual.result c.from_residual.ensures.1 in
    rw (p.1, p.2) (refused_judged (judge_rules c.args.lengths.now c.args.registers.now) _ _ _ (judge_named c.args.lengths.now c.args.registers.now) c.in_err-judge.ensures)

pub overflow_add-n : goal.overflow_add-n
overflow_add-n c = omega (arith, within c.args.lengths.now c.args.registers.now c.in_ok-judge.ensures)

pub overflow_add-n-2 : goal.overflow_add-n-2
overflow_add-n-2 c = omega (arith, within c.args.lengths.now c.args.registers.now c.in_ok-judge.ensures)

pub returns-then-out-n : goal.returns-then-out-n
returns-then-out-n c =
    let ns = c.args.lengths.now in
    let rs = c.args.registers.now in
    let j = c.in_ok-judge.ensures in
    refused_16 (judge_rules ns rs) (reply_bytes (cut ns rs)) _ (judge_numbered ns rs) j _ (length_reply ns rs (accepted ns rs j).all) c.if-out-n.true

pub put_reply-requires : goal.put_reply-requires
put_reply-requires c =
    let ns = c.args.lengths.now in
    let rs = c.args.registers.now in
    let j = c.in_ok-judge.ensures in
    (within ns rs j, (accepted ns rs j).all, c.if-out-n.false)

pub returns : goal.returns
returns c =
    let ns = c.args.lengths.now in
    let rs = c.args.registers.now in
    let j = c.in_ok-judge.ensures in
    stored (judge_rules ns rs) (reply_bytes (cut ns rs)) c.args.out.now (judge_numbered ns rs) j _ (length_reply ns rs (accepted ns rs j).all) c.if-out-n.false _ c.put_reply.ensures
