-- `sm160_text::DeviceRecordRecord::read` meets its contract: each attribute that was read, before what refuses or ends the line.
use Rattle.std.specs.Prelude.{Ok, Err}
use Rattle.wire.specs.Digits.{ascii}
use Rattle.sm160_text.specs.Grammar.{device_list}
use Rattle.sm160_text.specs.Line.{device_record}
use Rattle.sm160_text.proofs.Walking.{exits, has_text, tag_fails, line_read, rest_fails, rest_more, rest_end}
use Rattle.sm160_text.proofs.DeviceRecordRecord.read.Goals as goal

pub returns-in_err-expect : goal.returns-in_err-expect
returns-in_err-expect c = exits _ _ _ _ _ _ c.from_residual.ensures (tag_fails _ device_list device_record _ _ _ c.in_err-expect.ensures)

pub returns-in_err-d : goal.returns-in_err-d
unfolding device_list ascii
returns-in_err-d c =
    exits _ _ _ _ _ _ c.from_residual-in_err-d.ensures (line_read _ device_list device_record _ _ _ _ c.in_ok-expect.ensures (rest_fails _ _ _ _ _ _ c.in_err-d.ensures))

pub returns-in_err-k : goal.returns-in_err-k
unfolding device_list ascii
returns-in_err-k c =
    exits _ _ _ _ _ _ c.from_residual-in_err-k.ensures (line_read _ device_list device_record _ _ _ _ c.in_ok-expect.ensures (rest_more _ _ _ _ _ _ _ (has_text _ _ _ _ _ c.in_ok-d.ensures) (rest_fails _ _ _ _ _ _ c.in_err-k.ensures)))

pub returns-in_err-s : goal.returns-in_err-s
unfolding device_list ascii
returns-in_err-s c =
    exits _ _ _ _ _ _ c.from_residual-in_err-s.ensures (line_read _ device_list device_record _ _ _ _ c.in_ok-expect.ensures (rest_more _ _ _ _ _ _ _ (has_text _ _ _ _ _ c.in_ok-d.ensures) (rest_more _ _ _ _ _ _ _ (has_text _ _ _ _ _ c.in_ok-k.ensures) (rest_fails _ _ _ _ _ _ c.in_err-s.ensures))))

pub returns-in_err-end : goal.returns-in_err-end
unfolding device_list ascii
returns-in_err-end c =
    exits _ _ _ _ _ _ c.from_residual-in_err-end.ensures (line_read _ device_list device_record _ _ _ _ c.in_ok-expect.ensures (rest_more _ _ _ _ _ _ _ (has_text _ _ _ _ _ c.in_ok-d.ensures) (rest_more _ _ _ _ _ _ _ (has_text _ _ _ _ _ c.in_ok-k.ensures) (rest_more _ _ _ _ _ _ _ (has_text _ _ _ _ _ c.in_ok-s.ensures) (rest_end _ (Err _) _ c.in_err-end.ensures)))))

pub returns : goal.returns
unfolding device_list ascii
returns c = line_read _ device_list device_record _ _ _ _ c.in_ok-expect.ensures (rest_more _ _ _ _ _ _ _ (has_text _ _ _ _ _ c.in_ok-d.ensures) (rest_more _ _ _ _ _ _ _ (has_text _ _ _ _ _ c.in_ok-k.ensures) (rest_more _ _ _ _ _ _ _ (has_text _ _ _ _ _ c.in_ok-s.ensures) (rest_end _ (Ok _) _ c.in_ok-end.ensures))))
