-- `sm160_text::read` meets its contract.
use Rattle.sm160_text.proofs.Reading.{reads_end, reads_record, reads_refused}
use Rattle.sm160_text.proofs.read.Goals as goal

pub returns-then-file-place : goal.returns-then-file-place
returns-then-file-place g c = reads_end g.T.Record.made g.T.Record.form _ _ c.if-file-place.true

pub returns-in-Ok : goal.returns-in-Ok
returns-in-Ok g c = reads_record g.T.Record.made g.T.Record.form _ _ c.if-file-place.false _ c.in-Ok.ensures

pub returns-in-Err : goal.returns-in-Err
returns-in-Err g c = reads_refused g.T.Record.made g.T.Record.form _ _ c.if-file-place.false _ _ c.in-Err.ensures c.position_of.ensures
