-- `adi_request::Asked::bytes` meets its contract.
use Rattle.wire.specs.Numbers.{digits, be}
use Rattle.adi_request.specs.Layout.{group_bytes}
use borrow.Author.Rules.{rules}
use Rattle.adi_request.proofs.Asked.bytes.Goals as goal

pub returns : goal.returns
unfolding group_bytes be digits
returns c = search rules
