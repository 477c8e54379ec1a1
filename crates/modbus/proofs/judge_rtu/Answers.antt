-- `modbus::judge_rtu` meets its contract.
use Rattle.wire.specs.Numbered.{refusal}
use Rattle.wire.proofs.Answer.{refuses, passes}
use Rattle.modbus.proofs.judge_rtu.Goals as goal

pub returns-then-too_short : goal.returns-then-too_short
unfolding refusal
returns-then-too_short c = search (refuses, passes) depth 12

pub returns-then-too_long : goal.returns-then-too_long
unfolding refusal
returns-then-too_long c = search (refuses, passes) depth 12

pub returns-then-bad_crc : goal.returns-then-bad_crc
unfolding refusal
returns-then-bad_crc c = search (refuses, passes) depth 12

pub returns : goal.returns
returns c = search passes depth 12
