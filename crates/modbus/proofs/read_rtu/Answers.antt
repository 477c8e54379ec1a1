-- `modbus::read_rtu` meets its contract.
use Rattle.std.proofs.Common.{rules}
use Rattle.modbus.specs.Rtu.{read_rtu}
use Rattle.modbus.proofs.read_rtu.Goals as goal

pub returns-in_err-judge_rtu : goal.returns-in_err-judge_rtu
unfolding read_rtu
returns-in_err-judge_rtu c = search rules

pub returns : goal.returns
unfolding read_rtu
returns c = search rules
