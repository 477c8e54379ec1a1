-- `adi_request::put_request` meets its contract.
use mathlib.Core.Path.{◌≡◌, ap, ◌∙◌}
use mathlib.Core.List.{[]}
use Prim.Native.Nat.{ℕ, ◌+◌, ◌-◌, ◌*◌}
use native.Mathlib.Omega.{arith}
use lib.ListN.{length, get_or, set, drop, length-set}
use lib.Seq.{sets}
use borrow.Rule.Slice.PartMut.{put_mid}
use Rattle.adi_request.specs.Layout.{group_bytes, body_bytes}
use Rattle.adi_request.specs.Writing.{given, given_by}
use Rattle.adi_request.proofs.Stores.{group_put, store_turn, store_end, head_stored}
use Rattle.adi_request.proofs.put_request.Goals as goal

pub loop-i-preserved : goal.loop-i-preserved
loop-i-preserved c =
    let l = c.loop-i in
    let gs = c.args.groups.now in
    let at = l.i * 7 + 2 in
    let next : (l.i + 1) * 7 + 2 ≡ at + 7 = omega arith in
    let bytes = c.copy_from_slice.ensures.after ∙ c.bytes.ensures ∙ ap group_bytes c.from.ensures in
    let long : length l.out ≡ length c.args.out.now = l.auto.out ∙ length-set (set c.args.out.now 0 20) 1 (length gs * 7) ∙ length-set c.args.out.now 0 20 in
    let stored =
    group_put l.out c.copy_from_slice.new.self at (given_by (get_or gs l.i [])) bytes (omega (arith, long, c.requires.room, c.loop-i-test.true)) in
    ap (λ (k : ℕ). sets (put_mid at (at + 7 - at) l.out c.copy_from_slice.new.self) k (body_bytes (given (drop (l.i + 1) gs)))) next
    ∙ store_turn gs l.i l.out _ at c.loop-i-test.true stored
    ∙ l.invariant

pub returns : goal.returns
returns c =
    let l = c.loop-i in
    let a = c.args in
    store_end a.groups.now l.i l.out (l.i * 7 + 2) c.loop-i-test.false ∙ l.invariant ∙ head_stored a.groups.now a.out.now
