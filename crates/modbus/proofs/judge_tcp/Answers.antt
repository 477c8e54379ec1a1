-- `modbus::judge_tcp` meets its contract.
use Rattle.wire.specs.Numbered.{refusal}
use Rattle.wire.proofs.Answer.{refuses, passes}
use Rattle.modbus.proofs.judge_tcp.Goals as goal

pub returns-then-too_short : goal.returns-then-too_short
unfolding refusal
returns-then-too_short c = search (refuses, passes) depth 12

pub returns-then-too_long : goal.returns-then-too_long
unfolding refusal
returns-then-too_long c = search (refuses, passes) depth 12

pub returns-then-bad_protocol : goal.returns-then-bad_protocol
unfolding refusal
returns-then-bad_protocol c = search (refuses, passes) depth 12

pub returns-then-bad_length : goal.returns-then-bad_length
unfolding refusal
returns-then-bad_length c = search (refuses, passes) depth 12

pub returns : goal.returns
returns c = search passes depth 12
