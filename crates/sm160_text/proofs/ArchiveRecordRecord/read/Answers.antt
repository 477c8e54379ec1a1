-- `sm160_text::ArchiveRecordRecord::read` meets its contract: each attribute that was read, before what refuses or ends the line.
use Rattle.std.specs.Prelude.{Ok, Err}
use Rattle.wire.specs.Digits.{ascii}
use Rattle.sm160_text.specs.Grammar.{archive}
use Rattle.sm160_text.specs.Line.{archive_record}
use Rattle.sm160_text.proofs.Walking.{exits, has_text, tag_fails, line_read, rest_fails, rest_more, rest_end}
use Rattle.sm160_text.proofs.ArchiveRecordRecord.read.Goals as goal

pub returns-in_err-expect : goal.returns-in_err-expect
returns-in_err-expect c = exits _ _ _ _ _ _ c.from_residual.ensures (tag_fails _ archive archive_record _ _ _ c.in_err-expect.ensures)

pub returns-in_err-r : goal.returns-in_err-r
unfolding archive ascii
returns-in_err-r c =
    exits _ _ _ _ _ _ c.from_residual-in_err-r.ensures (line_read _ archive archive_record _ _ _ _ c.in_ok-expect.ensures (rest_fails _ _ _ _ _ _ c.in_err-r.ensures))

pub returns-in_err-s : goal.returns-in_err-s
unfolding archive ascii
returns-in_err-s c =
    exits _ _ _ _ _ _ c.from_residual-in_err-s.ensures (line_read _ archive archive_record _ _ _ _ c.in_ok-expect.ensures (rest_more _ _ _ _ _ _ _ c.in_ok-r.ensures (rest_fails _ _ _ _ _ _ c.in_err-s.ensures)))

pub returns-in_err-n : goal.returns-in_err-n
unfolding archive ascii
returns-in_err-n c =
    exits _ _ _ _ _ _ c.from_residual-in_err-n.ensures (line_read _ archive archive_record _ _ _ _ c.in_ok-expect.ensures (rest_more _ _ _ _ _ _ _ c.in_ok-r.ensures (rest_more _ _ _ _ _ _ _ (has_text _ _ _ _ _ c.in_ok-s.ensures) (rest_fails _ _ _ _ _ _ c.in_err-n.ensures))))

pub returns-in_err-v : goal.returns-in_err-v
unfolding archive ascii
returns-in_err-v c =
    exits _ _ _ _ _ _ c.from_residual-in_err-v.ensures (line_read _ archive archive_record _ _ _ _ c.in_ok-expect.ensures (rest_more _ _ _ _ _ _ _ c.in_ok-r.ensures (rest_more _ _ _ _ _ _ _ (has_text _ _ _ _ _ c.in_ok-s.ensures) (rest_more _ _ _ _ _ _ _ (has_text _ _ _ _ _ c.in_ok-n.ensures) (rest_fails _ _ _ _ _ _ c.in_err-v.ensures)))))

pub returns-in_err-e : goal.returns-in_err-e
unfolding archive ascii
returns-in_err-e c =
    exits _ _ _ _ _ _ c.from_residual-in_err-e.ensures (line_read _ archive archive_record _ _ _ _ c.in_ok-expect.ensures (rest_more _ _ _ _ _ _ _ c.in_ok-r.ensures (rest_more _ _ _ _ _ _ _ (has_text _ _ _ _ _ c.in_ok-s.ensures) (rest_more _ _ _ _ _ _ _ (has_text _ _ _ _ _ c.in_ok-n.ensures) (rest_more _ _ _ _ _ _ _ (has_text _ _ _ _ _ c.in_ok-v.ensures) (rest_fails _ _ _ _ _ _ c.in_err-e.ensures))))))

pub returns-in_err-c : goal.returns-in_err-c
unfolding archive ascii
returns-in_err-c c =
    exits _ _ _ _ _ _ c.from_residual-in_err-c.ensures (line_read _ archive archive_record _ _ _ _ c.in_ok-expect.ensures (rest_more _ _ _ _ _ _ _ c.in_ok-r.ensures (rest_more _ _ _ _ _ _ _ (has_text _ _ _ _ _ c.in_ok-s.ensures) (rest_more _ _ _ _ _ _ _ (has_text _ _ _ _ _ c.in_ok-n.ensures) (rest_more _ _ _ _ _ _ _ (has_text _ _ _ _ _ c.in_ok-v.ensures) (rest_more _ _ _ _ _ _ _ (has_text _ _ _ _ _ c.in_ok-e.ensures) (rest_fails _ _ _ _ _ _ c.in_err-c.ensures)))))))

pub returns-in_err-t : goal.returns-in_err-t
unfolding archive ascii
returns-in_err-t c =
    exits _ _ _ _ _ _ c.from_residual-in_err-t.ensures (line_read _ archive archive_record _ _ _ _ c.in_ok-expect.ensures (rest_more _ _ _ _ _ _ _ c.in_ok-r.ensures (rest_more _ _ _ _ _ _ _ (has_text _ _ _ _ _ c.in_ok-s.ensures) (rest_more _ _ _ _ _ _ _ (has_text _ _ _ _ _ c.in_ok-n.ensures) (rest_more _ _ _ _ _ _ _ (has_text _ _ _ _ _ c.in_ok-v.ensures) (rest_more _ _ _ _ _ _ _ (has_text _ _ _ _ _ c.in_ok-e.ensures) (rest_more _ _ _ _ _ _ _ c.in_ok-c.ensures (rest_fails _ _ _ _ _ _ c.in_err-t.ensures))))))))

pub returns-in_err-end : goal.returns-in_err-end
unfolding archive ascii
returns-in_err-end c =
    exits _ _ _ _ _ _ c.from_residual-in_err-end.ensures (line_read _ archive archive_record _ _ _ _ c.in_ok-expect.ensures (rest_more _ _ _ _ _ _ _ c.in_ok-r.ensures (rest_more _ _ _ _ _ _ _ (has_text _ _ _ _ _ c.in_ok-s.ensures) (rest_more _ _ _ _ _ _ _ (has_text _ _ _ _ _ c.in_ok-n.ensures) (rest_more _ _ _ _ _ _ _ (has_text _ _ _ _ _ c.in_ok-v.ensures) (rest_more _ _ _ _ _ _ _ (has_text _ _ _ _ _ c.in_ok-e.ensures) (rest_more _ _ _ _ _ _ _ c.in_ok-c.ensures (rest_more _ _ _ _ _ _ _ c.in_ok-t.ensures (rest_end _ (Err _) _ c.in_err-end.ensures)))))))))

pub returns : goal.returns
unfolding archive ascii
returns c = line_read _ archive archive_record _ _ _ _ c.in_ok-expect.ensures (rest_more _ _ _ _ _ _ _ c.in_ok-r.ensures (rest_more _ _ _ _ _ _ _ (has_text _ _ _ _ _ c.in_ok-s.ensures) (rest_more _ _ _ _ _ _ _ (has_text _ _ _ _ _ c.in_ok-n.ensures) (rest_more _ _ _ _ _ _ _ (has_text _ _ _ _ _ c.in_ok-v.ensures) (rest_more _ _ _ _ _ _ _ (has_text _ _ _ _ _ c.in_ok-e.ensures) (rest_more _ _ _ _ _ _ _ c.in_ok-c.ensures (rest_more _ _ _ _ _ _ _ c.in_ok-t.ensures (rest_end _ (Ok _) _ c.in_ok-end.ensures))))))))
