-- `sm160_read_file::type_fault` meets its contract.
use mathlib.Core.List.{[], ◌∷◌}
use Rattle.wire.specs.Numbered.{refusal}
use Rattle.wire.specs.Refusal.{◌when◌}
use Rattle.wire.proofs.Answer.{refuses, passes}
use Rattle.sm160_datagram.specs.Reading.{datagram_rules, datagram_fault}
use Rattle.sm160_datagram.proofs.Among.{handed_among, on_among}
use Rattle.sm160_read_file.specs.Reading.{other_type}
use Rattle.sm160_read_file.proofs.type_fault.Goals as goal

pub returns-in_err-fault_of : goal.returns-in_err-fault_of
unfolding datagram_fault
returns-in_err-fault_of c =
    let a = c.args in
    handed_among tt tt (datagram_rules a.bytes.now) (35 when other_type a.kind a.bytes.now ∷ []) _ _ c.from_residual.ensures c.in_err-fault_of.ensures

pub returns-then-other_type : goal.returns-then-other_type
unfolding datagram_fault refusal
returns-then-other_type c =
    let a = c.args in
    on_among tt tt (datagram_rules a.bytes.now) (35 when other_type a.kind a.bytes.now ∷ []) tt tt _ c.in_ok-fault_of.ensures (search refuses depth 12)

pub returns : goal.returns
unfolding datagram_fault
returns c =
    let a = c.args in
    on_among tt tt (datagram_rules a.bytes.now) (35 when other_type a.kind a.bytes.now ∷ []) tt tt _ c.in_ok-fault_of.ensures (search passes depth 12)
