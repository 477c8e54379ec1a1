-- `adi_reply::registers_at` meets its contract.
use mathlib.Core.Path.{ap, ◌∙◌}
use mathlib.Core.List.{List, []}
use Prim.Native.Nat.{ℕ, ◌-◌}
use lib.ListN.{get_or}
use Rattle.adi.specs.Groups.{groups}
use Rattle.adi_reply.specs.Layout.{typed, registers_of}
use Rattle.adi_reply.proofs.Judging.{no_registers, registers_of_place}
use Rattle.adi_reply.proofs.registers_at.Goals as goal

pub returns-then-place-eq0 : goal.returns-then-place-eq0
returns-then-place-eq0 c = c.front.ensures ∙ no_registers c.args.pdu.now _ c.if-place-eq0.true

pub returns : goal.returns
returns c =
    c.registers_after.ensures
    ∙ ap (λ (b : List ℕ). registers_of (get_or (groups typed b) (c.args.place - 1) [])) c.rest.ensures
    ∙ registers_of_place c.args.pdu.now c.args.place c.if-place-eq0.false
