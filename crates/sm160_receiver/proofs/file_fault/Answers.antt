-- `sm160_receiver::file_fault` meets its contract.
use mathlib.Core.Path.{sym, ap, ◌∙◌}
use Prim.Native.Nat.{ℕ}
use lib.ListN.{take}
use Rattle.sm160_receiver.proofs.Steps.{file_unasked, file_judged}
use Rattle.sm160_receiver.proofs.file_fault.Goals as goal

pub returns-then-not-is_end : goal.returns-then-not-is_end
returns-then-not-is_end c = file_unasked c.args.frame.now c.args.buffer.now (sym c.is_end.ensures ∙ c.if-not-is_end.true)

pub returns : goal.returns
returns c =
    let a = c.args in
    file_judged a.frame.now a.buffer.now _ _ _ (sym c.is_end.ensures ∙ c.if-not-is_end.false) c.datagram_fault.ensures
    (c.front-held.ensures ∙ ap (λ (n : ℕ). take n a.buffer.now) c.offset_of.ensures) c.part_of.ensures
