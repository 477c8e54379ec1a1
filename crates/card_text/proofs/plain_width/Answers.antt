-- `card_text::plain_width` meets its contract.
use native.Mathlib.Omega.{arith}
use borrow.Author.Tests.{lt-ltb, le-ltb}
use Rattle.card_text.specs.Line.{plain_width}
use Rattle.card_text.proofs.plain_width.Goals as goal

pub returns-then-n-lt10 : goal.returns-then-n-lt10
unfolding plain_width
returns-then-n-lt10 c = (simp (lt-ltb _ _ c.if-n-lt10.true), omega arith)

pub returns-then-n-lt100 : goal.returns-then-n-lt100
unfolding plain_width
returns-then-n-lt100 c = (simp (le-ltb _ _ c.if-n-lt10.false, lt-ltb _ _ c.if-n-lt100.true), omega arith)

pub returns : goal.returns
unfolding plain_width
returns c = (simp (le-ltb _ _ c.if-n-lt10.false, le-ltb _ _ c.if-n-lt100.false), omega arith)
