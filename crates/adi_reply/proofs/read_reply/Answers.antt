-- `adi_reply::read_reply` meets its contract.
use mathlib.Core.Path.{ap, ◌∙◌}
use mathlib.Core.List.{List}
use Prim.Native.Nat.{ℕ}
use lib.ListN.{length}
use Rattle.std.proofs.lemmas.Result.{err_from_is_err_and}
use Rattle.wire.specs.Answer.{judged}
use Rattle.wire.specs.InTurn.{in_turn}
use Rattle.wire.specs.Refusal.{first}
use Rattle.adi.specs.Groups.{groups}
use Rattle.adi_reply.specs.Layout.{typed}
use Rattle.adi_reply.specs.Reading.{group_rules}
use Rattle.adi_reply.proofs.Answers.{refused_10, is_no_data, refused_80, group_refused, groups_counted}
use Rattle.adi_reply.proofs.read_reply.Goals as goal

pub returns-then-not_function : goal.returns-then-not_function
returns-then-not_function c = refused_10 c.args.pdu.now c.not_function.ensures c.if-not_function.true

pub returns-then-pdu-eq4 : goal.returns-then-pdu-eq4
returns-then-pdu-eq4 c = is_no_data c.args.pdu.now c.not_function.ensures c.if-not_function.false c.if-pdu-eq4.true c.read_no_data.ensures

pub returns-then-bad_count : goal.returns-then-bad_count
returns-then-bad_count c = refused_80 c.args.pdu.now c.not_function.ensures c.if-not_function.false c.if-pdu-eq4.false c.bad_count.ensures c.if-bad_count.true

pub returns-in_err-count : goal.returns-in_err-count
returns-in_err-count c =
    let counted = c.in_err-count.ensures ∙ ap (λ (b : List ℕ). judged (length (groups typed b)) (first (in_turn group_rules (groups typed b)))) c.rest.ensures in
    let p = err_from_is_err_and c.from_residual.result c.from_residual.ensures.1 in
    rw (p.1, p.2)
    (group_refused c.args.pdu.now c.not_function.ensures c.if-not_function.false c.if-pdu-eq4.false c.bad_count.ensures c.if-bad_count.false _ counted)

pub returns : goal.returns
returns c =
    groups_counted c.args.pdu.now c.not_function.ensures c.if-not_function.false c.if-pdu-eq4.false c.bad_count.ensures c.if-bad_count.false _
    (c.in_ok-count.ensures ∙ ap (λ (b : List ℕ). judged (length (groups typed b)) (first (in_turn group_rules (groups typed b)))) c.rest.ensures)
