-- `sm160_frame::read_frame` meets its contract.
use mathlib.Core.Path.{sym, ap, ◌∙◌}
use Rattle.std.specs.Prelude.{Ok}
use borrow.Author.Rules.{rules}
use Rattle.wire.proofs.Answer.{judged_none, none_judged}
use Rattle.sm160_frame.specs.Reading.{read_frame}
use Rattle.sm160_frame.proofs.read_frame.Goals as goal

pub returns-in_err-frame_fault : goal.returns-in_err-frame_fault
unfolding read_frame
returns-in_err-frame_fault c = search rules

pub returns : goal.returns
unfolding read_frame
returns c = ap Ok c.of.ensures ∙ sym (judged_none _ _ (none_judged tt _ tt c.in_ok-frame_fault.ensures))
