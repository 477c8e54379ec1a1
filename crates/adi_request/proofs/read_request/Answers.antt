-- `adi_request::read_request` meets its contract.
use mathlib.Core.Path.{refl, sym, ap, ◌∙◌}
use mathlib.Core.List.{List}
use Prim.Native.Nat.{ℕ, ◌%◌}
use lib.ListN.{length}
use Rattle.std.proofs.lemmas.Result.{err_from_is_err_and}
use Rattle.wire.specs.Answer.{judged}
use Rattle.wire.specs.InTurn.{in_turn}
use Rattle.wire.specs.Refusal.{first}
use Rattle.adi.specs.Groups.{groups}
use Rattle.adi.proofs.Handed.{goes_back, goes_on}
use Rattle.adi_request.specs.Layout.{six}
use Rattle.wire.specs.Numbered.{refusal}
use Rattle.wire.proofs.Answer.{refuses, passes}
use Rattle.adi_request.specs.Reading.{group_rules, read_request}
use Rattle.adi_request.proofs.Judging.{body_sevens, groups_counted}
use Rattle.adi_request.proofs.read_request.Goals as goal

pub returns-then-not_function : goal.returns-then-not_function
unfolding read_request refusal
returns-then-not_function c = search (refuses, passes) depth 12

pub returns-then-bad_count : goal.returns-then-bad_count
unfolding read_request refusal
returns-then-bad_count c = search (refuses, passes) depth 12

pub judge_groups-requires : goal.judge_groups-requires
judge_groups-requires c =
    ap (λ (l : List ℕ). length l % 7) c.rest.ensures ∙ (body_sevens c.args.pdu.now (sym c.bad_count.ensures ∙ c.if-bad_count.false)).whole

pub returns-in_err-judge_groups : goal.returns-in_err-judge_groups
unfolding read_request
returns-in_err-judge_groups c =
    let p = err_from_is_err_and c.from_residual.result c.from_residual.ensures.1 in
    rw (p.1, p.2)
    (passes _ _ _ _ _ _ c.not_function.ensures c.if-not_function.false
    (passes _ _ _ _ _ _ c.bad_count.ensures c.if-bad_count.false
    (goes_back _ tt _ _ _ (c.in_err-judge_groups.ensures ∙ ap (λ (l : List ℕ). judged tt (first (in_turn group_rules (groups six l)))) c.rest.ensures) refl)))

pub returns : goal.returns
unfolding read_request
returns c =
    passes _ _ _ _ _ _ c.not_function.ensures c.if-not_function.false
    (passes _ _ _ _ _ _ c.bad_count.ensures c.if-bad_count.false
    (goes_on _ tt tt _ _ _ (c.in_ok-judge_groups.ensures ∙ ap (λ (l : List ℕ). judged tt (first (in_turn group_rules (groups six l)))) c.rest.ensures) refl
    (groups_counted c.args.pdu.now _ (sym c.bad_count.ensures ∙ c.if-bad_count.false) c.byte_at.ensures)))
