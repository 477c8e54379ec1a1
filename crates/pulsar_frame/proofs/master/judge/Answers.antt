-- `pulsar_frame::master::judge` meets its contract.
use Rattle.wire.specs.Numbered.{refusal}
use Rattle.wire.proofs.Answer.{refuses, passes}
use Rattle.pulsar_frame.proofs.master.judge.Goals as goal

pub returns-then-bad_asked : goal.returns-then-bad_asked
unfolding refusal
returns-then-bad_asked c = search (refuses, passes) depth 12

pub returns-then-too_short : goal.returns-then-too_short
unfolding refusal
returns-then-too_short c = search (refuses, passes) depth 12

pub returns-then-not_bcd : goal.returns-then-not_bcd
unfolding refusal
returns-then-not_bcd c = search (refuses, passes) depth 12

pub returns : goal.returns
returns c = search passes depth 12
