-- `pulsar_frame::read_at_meter` meets its contract.
use mathlib.Core.Path.{ap, sym, ◌∙◌}
use Rattle.std.specs.Prelude.{Ok}
use Rattle.wire.proofs.Answer.{none_judged}
use Rattle.pulsar_frame.specs.Reading.{read_answer, read_at_meter}
use Rattle.pulsar_frame.proofs.OnItsWay.{sends_back}
use Rattle.pulsar_frame.proofs.read_at_meter.Goals as goal

pub returns-in-Ok : goal.returns-in-Ok
unfolding read_at_meter
returns-in-Ok c = ap Ok c.frame_of.ensures ∙ sym (ap (read_answer c.args.bytes.now) (none_judged tt _ tt c.in-Ok.ensures))

pub returns-in-Err : goal.returns-in-Err
unfolding read_at_meter
returns-in-Err c = sends_back _ _ _ _ c.in-Err.ensures c.fault_of.ensures
