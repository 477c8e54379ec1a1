-- `modbus::read_tcp` meets its contract.
use Rattle.std.proofs.Common.{rules}
use Rattle.modbus.specs.Tcp.{read_tcp}
use Rattle.modbus.proofs.read_tcp.Goals as goal

pub returns-in_err-judge_tcp : goal.returns-in_err-judge_tcp
unfolding read_tcp
returns-in_err-judge_tcp c = search rules

pub returns : goal.returns
unfolding read_tcp
returns c = search rules
