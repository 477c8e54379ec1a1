-- `sm160_text::LineReader::end` meets its contract.
use Rattle.sm160_text.proofs.Walking.{exits, end_fails, end_letter, end_read}
use Rattle.sm160_text.proofs.LineReader.end.Goals as goal

pub returns-in_err-expect : goal.returns-in_err-expect
returns-in_err-expect c = exits _ _ _ _ _ _ c.from_residual.ensures (end_fails _ _ _ c.in_err-expect.ensures)

pub returns-then-is_letter : goal.returns-then-is_letter
returns-then-is_letter c = end_letter _ _ _ c.in_ok-expect.ensures _ c.byte_at.ensures _ c.is_letter.ensures c.if-is_letter.true

pub returns : goal.returns
returns c = end_read _ _ _ c.in_ok-expect.ensures _ c.byte_at.ensures _ c.is_letter.ensures _ _ c.if-is_letter.false c.expect-2.ensures
