-- `sm160_sender::send_fault` meets its contract.
use mathlib.Core.List.{[], ◌∷◌}
use Rattle.wire.specs.Numbered.{refusal}
use Rattle.wire.specs.Refusal.{◌when◌}
use Rattle.wire.proofs.Answer.{refuses, passes}
use Rattle.sm160_datagram.specs.Reading.{datagram_rules, datagram_fault}
use Rattle.sm160_datagram.proofs.Among.{handed_among, on_among}
use Rattle.sm160_sender.specs.Sending.{past_end}
use Rattle.sm160_sender.proofs.send_fault.Goals as goal

pub returns-then-bad_file : goal.returns-then-bad_file
unfolding refusal
returns-then-bad_file c = search refuses depth 12

pub returns-then-bad_largest : goal.returns-then-bad_largest
unfolding refusal
returns-then-bad_largest c = search (refuses, passes) depth 12

pub returns-in_err-fault_of : goal.returns-in_err-fault_of
unfolding datagram_fault
returns-in_err-fault_of c =
    let a = c.args in
    passes (tt {0}) _ _ _ _ _ c.bad_file.ensures c.if-bad_file.false
    (passes (tt {0}) _ _ _ _ _ c.bad_largest.ensures c.if-bad_largest.false
    (handed_among (tt {0}) (tt {0}) (datagram_rules a.file.now) (34 when past_end a.file.now a.place ∷ []) _ _ c.from_residual.ensures c.in_err-fault_of.ensures))

pub returns-then-past_end : goal.returns-then-past_end
unfolding datagram_fault refusal
returns-then-past_end c =
    let a = c.args in
    passes (tt {0}) _ _ _ _ _ c.bad_file.ensures c.if-bad_file.false
    (passes (tt {0}) _ _ _ _ _ c.bad_largest.ensures c.if-bad_largest.false
    (on_among (tt {0}) (tt {0}) (datagram_rules a.file.now) (34 when past_end a.file.now a.place ∷ []) tt (tt {0}) _ c.in_ok-fault_of.ensures (search refuses depth 12)))

pub returns : goal.returns
unfolding datagram_fault
returns c =
    let a = c.args in
    passes (tt {0}) _ _ _ _ _ c.bad_file.ensures c.if-bad_file.false
    (passes (tt {0}) _ _ _ _ _ c.bad_largest.ensures c.if-bad_largest.false
    (on_among (tt {0}) (tt {0}) (datagram_rules a.file.now) (34 when past_end a.file.now a.place ∷ []) tt (tt {0}) _ c.in_ok-fault_of.ensures (search passes depth 12)))
