-- `sm160_text::LineReader::needed` meets its contract.
use Rattle.std.specs.Prelude.{Ok, Err}
use Rattle.sm160_text.proofs.Walking.{exits, name_fails, quote_fails, needed_read}
use Rattle.sm160_text.proofs.LineReader.needed.Goals as goal

pub returns-in_err-expect : goal.returns-in_err-expect
returns-in_err-expect c = exits _ _ _ _ _ _ c.from_residual.ensures (name_fails _ _ _ _ c.in_err-expect.ensures)

pub returns-in_err-expect-2 : goal.returns-in_err-expect-2
returns-in_err-expect-2 c =
    exits _ _ _ _ _ _ c.from_residual-in_err-expect-2.ensures (quote_fails _ _ _ _ c.in_ok-expect.ensures _ _ c.in_err-expect-2.ensures)

pub returns-in_err-expect-3 : goal.returns-in_err-expect-3
returns-in_err-expect-3 c =
    exits _ _ _ _ _ _ c.from_residual-in_err-expect-3.ensures
    (needed_read _ _ _ _ c.in_ok-expect.ensures _ _ _ (Err _) _ c.in_ok-expect-2.ensures c.text_end-end.ensures c.in_err-expect-3.ensures)

pub returns : goal.returns
returns c = needed_read _ _ _ _ c.in_ok-expect.ensures _ _ _ (Ok _) _ c.in_ok-expect-2.ensures c.text_end-end.ensures c.in_ok-expect-3.ensures
