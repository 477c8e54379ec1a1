-- `archive::source_from` meets its contract.
use mathlib.Core.Path.{sym, ap, ◌∙◌}
use borrow.Author.Tests.{ne_eqb}
use Rattle.archive.specs.Archive.{source_from}
use Rattle.archive.specs.declared.Source.TheVariants as S
use Rattle.archive.proofs.source_from.Goals as goal

pub returns-then-number-eq0 : goal.returns-then-number-eq0
returns-then-number-eq0 c = sym (ap source_from c.if-number-eq0.true)

pub returns : goal.returns
returns c = ap S.Archive c.type_from.ensures ∙ simp (ne_eqb _ _ c.if-number-eq0.false)
