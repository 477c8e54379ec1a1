-- `pulsar_frame::meter::judge_later` meets its contract.
use Rattle.wire.specs.Numbered.{refusal}
use Rattle.wire.proofs.Answer.{refuses, passes}
use Rattle.pulsar_frame.proofs.meter.judge_later.Goals as goal

pub returns-then-bad_length : goal.returns-then-bad_length
unfolding refusal
returns-then-bad_length c = search (refuses, passes) depth 12

pub returns-then-on_its_way : goal.returns-then-on_its_way
unfolding refusal
returns-then-on_its_way c = search (refuses, passes) depth 12

pub returns-then-bad_crc : goal.returns-then-bad_crc
unfolding refusal
returns-then-bad_crc c = search (refuses, passes) depth 12

pub returns-then-not_mine : goal.returns-then-not_mine
unfolding refusal
returns-then-not_mine c = search (refuses, passes) depth 12

pub returns-then-no_function : goal.returns-then-no_function
unfolding refusal
returns-then-no_function c = search (refuses, passes) depth 12

pub returns : goal.returns
returns c = search passes depth 12
