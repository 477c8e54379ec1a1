-- `adi_reply::count_groups` meets its contract.
use mathlib.Core.Path.{refl, sym, ap, ◌∙◌}
use mathlib.Core.List.{List}
use Prim.Native.Nat.{ℕ, ◌+◌, ◌<◌, ◌≤◌}
use native.Mathlib.Omega.{arith}
use lib.ListN.{length, get_or, length-drop}
use Rattle.std.specs.Prelude.{Ok}
use Rattle.std.proofs.lemmas.Result.{err_from_is_err_and}
use Rattle.wire.specs.Answer.{judged}
use Rattle.wire.specs.InTurn.{in_turn}
use Rattle.wire.specs.Refusal.{first}
use Rattle.wire.proofs.Answer.{none_judged, judged_none}
use Rattle.adi.specs.Groups.{groups}
use Rattle.adi.proofs.Handed.{goes_back}
use Rattle.adi.proofs.Groups.{group_passes, group_decides, groups_pass, count_next, count_end}
use Rattle.adi.proofs.Room.{some_judged}
use Rattle.adi_reply.specs.Layout.{typed}
use Rattle.adi_reply.specs.Reading.{group_rules}
use Rattle.adi_reply.proofs.count_groups.Goals as goal

pub loop-left-preserved : goal.loop-left-preserved
loop-left-preserved c =
    let l = c.loop-left in
    let s = l.left.now in
    let h : 0 < length s = omega (arith, c.in-len1-up.len_at_least) in
    let to = get_or s 0 0 + 2 in
    let judged = sym (none_judged tt _ tt c.in_ok-judge_group.ensures) in
    record {
      faults =
          ap (λ (g : List ℕ). first (in_turn group_rules (groups typed g))) c.rest-left.ensures
          ∙ group_passes typed s 0 group_rules (λ g. tt) h 0 judged to (omega arith) refl
          ∙ l.invariant.faults;
      counted =
          ap (λ (g : List ℕ). l.count + 1 + length (groups typed g)) c.rest-left.ensures
          ∙ count_next typed s 0 h to (omega arith) l.count
          ∙ l.invariant.counted;
      few = omega (arith, ap length c.rest-left.ensures, length-drop to s, l.invariant.few);
    }

pub returns-in_err-judge_group : goal.returns-in_err-judge_group
returns-in_err-judge_group c =
    let l = c.loop-left in
    let h : 0 < length l.left.now = omega (arith, c.in-len1-up.len_at_least) in
    let decides = group_decides typed l.left.now 0 group_rules (λ g. tt) h _ refl (some_judged _ _ c.in_err-judge_group.ensures) in
    let p = err_from_is_err_and c.from_residual.result c.from_residual.ensures.1 in
    rw (p.1, p.2) (goes_back _ tt _ _ _ (c.in_err-judge_group.ensures ∙ ap (judged tt) (decides ∙ l.invariant.faults)) refl)

pub returns : goal.returns
returns c =
    let l = c.loop-left in
    let h : length l.left.now ≤ 0 = omega (arith, c.in_default.len_below) in
    ap Ok (sym (count_end typed l.left.now 0 h l.count) ∙ l.invariant.counted)
    ∙ sym (judged_none _ _ (sym l.invariant.faults ∙ groups_pass typed l.left.now 0 group_rules h))
