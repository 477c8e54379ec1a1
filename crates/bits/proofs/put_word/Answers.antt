-- `bits::put_word` meets its contract.
use mathlib.Core.Path.{ap, ◌∙◌}
use Rattle.std.proofs.lemmas.List.Edits.{sets}
use Rattle.wire.proofs.Widths.{be_bytes}
use Rattle.bits.proofs.put_word.Goals as goal

pub returns : goal.returns
returns c = c.put_all.ensures ∙ ap (sets c.args.out.now c.args.at) (c.to_be_bytes.ensures ∙ be_bytes _ _)
