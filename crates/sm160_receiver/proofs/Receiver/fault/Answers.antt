-- `sm160_receiver::Receiver::fault` meets its contract.
use Rattle.wire.specs.Numbered.{refusal as by_number}
use Rattle.wire.proofs.Answer.{refuses, passes}
use Rattle.sm160_frame.specs.Reading.{frame_rules, frame_fault}
use Rattle.sm160_datagram.proofs.Among.{handed_among, on_among}
use Rattle.sm160_receiver.specs.Receiving.{place_rules}
use Rattle.sm160_receiver.proofs.Receiver.fault.Goals as goal

pub returns-then-is_unfit : goal.returns-then-is_unfit
unfolding by_number
returns-then-is_unfit c = search refuses depth 12

pub returns-in_err-frame_fault : goal.returns-in_err-frame_fault
unfolding frame_fault
returns-in_err-frame_fault c =
    let s = c.args.self.now in
    passes (tt {0}) _ _ _ _ _ c.is_unfit.ensures c.if-is_unfit.false
    (handed_among (tt {0}) (tt {0}) (frame_rules s.limit c.args.frame.now) (place_rules s c.args.buffer.now c.args.frame.now) _ _ c.from_residual.ensures c.in_err-frame_fault.ensures)

pub returns : goal.returns
unfolding frame_fault
returns c =
    let s = c.args.self.now in
    passes (tt {0}) _ _ _ _ _ c.is_unfit.ensures c.if-is_unfit.false
    (on_among (tt {0}) (tt {0}) (frame_rules s.limit c.args.frame.now) (place_rules s c.args.buffer.now c.args.frame.now) tt (tt {0}) _ c.in_ok-frame_fault.ensures c.place_fault.ensures)
