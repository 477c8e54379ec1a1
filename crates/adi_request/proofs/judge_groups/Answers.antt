-- `adi_request::judge_groups` meets its contract.
use mathlib.Core.Path.{sym, ap, ◌∙◌}
use Prim.Native.Nat.{◌/◌, ◌<◌, ◌≤◌}
use lib.ListN.{length}
use native.Mathlib.Omega.{arith}
use Rattle.std.proofs.lemmas.Result.{err_from_is_err_and}
use Rattle.wire.specs.Answer.{judged}
use Rattle.adi_request.proofs.Chunks.{chunk_of, chunk_passes, chunk_decides, chunks_pass}
use Rattle.adi_request.proofs.judge_groups.Goals as goal

pub returns-in_err-judge_group : goal.returns-in_err-judge_group
returns-in_err-judge_group c =
    let s = c.args.body.now in
    let k = c.loop-group.group-index in
    let few = c.loop-group-test.true in
    let h : k < length s / 7 = omega (arith, c.as_chunks.ensures.front_len) in
    let p = err_from_is_err_and c.from_residual.result c.from_residual.ensures.1 in
    rw (p.1, p.2)
    (chunk_decides s k h _ (chunk_of c.as_chunks.result.0.now s k c.as_chunks.ensures.front h) _ c.in_err-judge_group.ensures
    ∙ ap (judged tt) c.loop-group.invariant)

pub loop-group-preserved : goal.loop-group-preserved
loop-group-preserved c =
    let s = c.args.body.now in
    let k = c.loop-group.group-index in
    let few = c.loop-group-test.true in
    let h : k < length s / 7 = omega (arith, c.as_chunks.ensures.front_len) in
    chunk_passes s k h _ (chunk_of c.as_chunks.result.0.now s k c.as_chunks.ensures.front h) c.in_ok-judge_group.ensures ∙ c.loop-group.invariant

pub returns : goal.returns
returns c =
    let s = c.args.body.now in
    let k = c.loop-group.group-index in
    let all = c.loop-group-test.false in
    let h : length s / 7 ≤ k = omega (arith, c.as_chunks.ensures.front_len) in
    ap (judged tt) (sym (chunks_pass s c.requires k h) ∙ c.loop-group.invariant)
