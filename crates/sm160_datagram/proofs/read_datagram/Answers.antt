-- `sm160_datagram::read_datagram` meets its contract.
use mathlib.Core.Path.{sym, ap, ◌∙◌}
use borrow.Author.Rules.{rules}
use Rattle.std.specs.Prelude.{Ok}
use Rattle.wire.proofs.Answer.{judged_none, none_judged}
use Rattle.sm160_datagram.specs.Reading.{read_datagram}
use Rattle.sm160_datagram.proofs.read_datagram.Goals as goal

pub returns-in_err-fault_of : goal.returns-in_err-fault_of
unfolding read_datagram
returns-in_err-fault_of c = search rules

pub returns : goal.returns
unfolding read_datagram
returns c = ap Ok c.byte_at.ensures ∙ sym (judged_none _ _ (none_judged tt _ tt c.in_ok-fault_of.ensures))
