-- `wire::put_le16` meets its contract.
use mathlib.Core.Path.{ap, ◌∙◌}
use Rattle.std.proofs.lemmas.List.Edits.{sets}
use Rattle.wire.proofs.Widths.{le_bytes}
use Rattle.wire.proofs.put_le16.Goals as goal

pub returns : goal.returns
returns c = c.put_all.ensures ∙ ap (sets c.args.out.now c.args.at) (c.to_le_bytes.ensures ∙ le_bytes _ _)
