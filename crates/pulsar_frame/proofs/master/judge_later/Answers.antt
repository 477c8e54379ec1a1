-- `pulsar_frame::master::judge_later` meets its contract.
use Rattle.wire.specs.Numbered.{refusal}
use Rattle.wire.proofs.Answer.{refuses, passes}
use Rattle.pulsar_frame.proofs.master.judge_later.Goals as goal

pub returns-then-not_asked : goal.returns-then-not_asked
unfolding refusal
returns-then-not_asked c = search (refuses, passes) depth 12

pub returns-then-other_function : goal.returns-then-other_function
unfolding refusal
returns-then-other_function c = search (refuses, passes) depth 12

pub returns-then-bad_length : goal.returns-then-bad_length
unfolding refusal
returns-then-bad_length c = search (refuses, passes) depth 12

pub returns-then-on_its_way : goal.returns-then-on_its_way
unfolding refusal
returns-then-on_its_way c = search (refuses, passes) depth 12

pub returns-then-bad_crc : goal.returns-then-bad_crc
unfolding refusal
returns-then-bad_crc c = search (refuses, passes) depth 12

pub returns-then-other_id : goal.returns-then-other_id
unfolding refusal
returns-then-other_id c = search (refuses, passes) depth 12

pub returns : goal.returns
returns c = search passes depth 12
