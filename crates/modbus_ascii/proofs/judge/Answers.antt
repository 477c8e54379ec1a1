-- `modbus_ascii::judge` meets its contract.
use Rattle.wire.specs.Numbered.{refusal}
use Rattle.wire.proofs.Answer.{refuses, passes}
use Rattle.modbus_ascii.proofs.Answers.{lrc_tested}
use Rattle.modbus_ascii.proofs.judge.Goals as goal

pub returns-then-too_short : goal.returns-then-too_short
unfolding refusal
returns-then-too_short c = search (refuses, passes) depth 12

pub returns-then-too_long : goal.returns-then-too_long
unfolding refusal
returns-then-too_long c = search (refuses, passes) depth 12

pub returns-then-bad_marks : goal.returns-then-bad_marks
unfolding refusal
returns-then-bad_marks c = search (refuses, passes) depth 12

pub returns-then-bad_characters : goal.returns-then-bad_characters
unfolding refusal
returns-then-bad_characters c = search (refuses, passes) depth 12

pub returns-then-bad_lrc : goal.returns-then-bad_lrc
unfolding refusal
returns-then-bad_lrc c =
    let lrc = lrc_tested c.args.chars.now _ _ c.inside.ensures c.bad_lrc.ensures in
    search (refuses, passes) depth 12

pub returns : goal.returns
returns c =
    let lrc = lrc_tested c.args.chars.now _ _ c.inside.ensures c.bad_lrc.ensures in
    search passes depth 12
