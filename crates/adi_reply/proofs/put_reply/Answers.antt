-- `adi_reply::put_reply` meets its contract.
use mathlib.Core.Path.{◌≡◌, sym, ap, ap₂, ◌∙◌}
use mathlib.Core.List.{List}
use Prim.Native.Nat.{ℕ, ◌+◌, ◌-◌}
use native.Mathlib.Nat.{le_of_eq}
use native.Mathlib.Numerals.{add-one}
use native.Mathlib.Omega.{arith}
use lib.ListN.{length, get_or, set, drop, take, length-drop}
use lib.Seq.{sets, take_all, length-take-le}
use Rattle.adi_reply.specs.Layout.{body_bytes}
use Rattle.adi_reply.specs.Writing.{cut}
use Rattle.adi_reply.proofs.Stores.{group_within, left_next, store_turn, store_end, head_stored}
use Rattle.adi_reply.proofs.put_reply.Goals as goal

pub slice_bounds-put_registers-end : goal.slice_bounds-put_registers-end
slice_bounds-put_registers-end c =
    let l = c.loop-n in
    sym (length-take-le _ _ (group_within c.args.lengths.now l.left.now l.n-index c.loop-n-test.true l.invariant.all))

pub slice_bounds-left-count : goal.slice_bounds-left-count
slice_bounds-left-count c = let l = c.loop-n in group_within c.args.lengths.now l.left.now l.n-index c.loop-n-test.true l.invariant.all

pub slice_bounds-left-start : goal.slice_bounds-left-start
slice_bounds-left-start c =
    let l = c.loop-n in
    let within = group_within c.args.lengths.now l.left.now l.n-index c.loop-n-test.true l.invariant.all in
    omega (arith, within)

pub loop-n-preserved : goal.loop-n-preserved
loop-n-preserved c =
    let l = c.loop-n in
    let ns = c.args.lengths.now in
    let n = get_or ns l.n-index 0 in
    let left = l.left.now in
    let h = c.loop-n-test.true in
    let put = c.put_registers.ensures ∙ ap (λ (k : ℕ). sets (set (set l.out l.at n) k 6) (l.at + 2) (take n left)) (add-one l.at) in
    let rest : take (length left - n) (drop n left) ≡ drop n left = take_all _ _ (le_of_eq (length-drop n left)) in
    record {
      stored =
          ap₂ (λ (o b : List ℕ). sets o (l.at + (n + 2)) (body_bytes (cut (drop (l.n-index + 1) ns) b))) put rest
          ∙ store_turn ns left l.n-index h l.invariant.all l.out l.at
          ∙ l.invariant.stored;
      all = left_next ns left l.n-index h l.invariant.all ∙ sym (ap length rest);
      place = omega (arith, ap length rest, length-drop n left, group_within ns left l.n-index h l.invariant.all, l.invariant.place);
    }

pub returns : goal.returns
returns c =
    let l = c.loop-n in
    let a = c.args in
    store_end a.lengths.now l.left.now l.out l.n-index l.at c.loop-n-test.false
    ∙ l.invariant.stored
    ∙ head_stored a.lengths.now a.registers.now c.requires.1 a.out.now
