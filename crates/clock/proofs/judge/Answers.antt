-- `clock::judge` meets its contract.
use Rattle.wire.specs.Numbered.{refusal}
use Rattle.wire.proofs.Answer.{refuses, passes}
use Rattle.clock.proofs.judge.Goals as goal

pub returns-then-bad_meter : goal.returns-then-bad_meter
unfolding refusal
returns-then-bad_meter c = search (refuses, passes) depth 12

pub returns-then-bad_cabinet : goal.returns-then-bad_cabinet
unfolding refusal
returns-then-bad_cabinet c = search (refuses, passes) depth 12

pub returns : goal.returns
returns c = search passes depth 12
