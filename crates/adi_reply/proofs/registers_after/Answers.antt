-- `adi_reply::registers_after` meets its contract.
use mathlib.Core.Path.{◌≡◌, sym, ap, ap₂, ◌∙◌}
use mathlib.Core.List.{List, []}
use Prim.Native.Nat.{ℕ, ◌+◌, ◌-◌}
use native.Mathlib.Omega.{arith}
use lib.ListN.{get_or, take, drop, drop_of_length-le}
use Rattle.adi.specs.Groups.{groups}
use Rattle.adi.proofs.Groups.{group_later, group_nowhere}
use Rattle.adi_reply.specs.Layout.{registers_of, typed}
use Rattle.adi_reply.proofs.Judging.{first_at}
use Rattle.adi_reply.proofs.registers_after.Goals as goal

pub returns-then-body-at : goal.returns-then-body-at
returns-then-body-at c =
    let s = c.args.body.now in
    let h = c.if-body-at.true in
    c.front.ensures
    ∙ ap registers_of
    (sym (drop_of_length-le s {i = c.loop.at} h) ∙ group_nowhere typed s c.loop.at h (c.args.k - c.loop.counter) ∙ c.loop.invariant)

pub loop-preserved : goal.loop-preserved
loop-preserved c =
    let s = c.args.body.now in
    let at = c.loop.at in
    let to = at + (get_or s at 0 + 2) in
    let k = c.args.k - c.loop.counter in
    let less : c.args.k - (c.loop.counter + 1) ≡ k - 1 = omega arith in
    ap (λ (j : ℕ). get_or (groups typed (drop to s)) j []) less
    ∙ group_later typed s at c.if-body-at.false to (omega arith) k (λ (z : k ≡ 0). let more = c.loop-test.true in absurd (omega arith))
    ∙ c.loop.invariant

pub returns : goal.returns
returns c =
    let here = drop c.loop.at c.args.body.now in
    let all = c.loop-test.false in
    let none : 0 ≡ c.args.k - c.loop.counter = omega arith in
    c.front-2.ensures
    ∙ ap₂ (λ (n : ℕ) (l : List ℕ). take n l) c.byte_at.ensures c.rest.ensures
    ∙ ap registers_of (c.rest-group.ensures ∙ first_at here ∙ ap (λ (j : ℕ). get_or (groups typed here) j []) none ∙ c.loop.invariant)
