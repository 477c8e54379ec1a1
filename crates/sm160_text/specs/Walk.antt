-- For the code: how far it came, step by step.
-- Assumes nothing.
use Rattle.std.specs.Prelude.{◌≡◌, ℕ, ◌+◌, cond, List, [], ◌∷◌, Result, Ok}
use Rattle.wire.specs.Answer.{answered, refuse}
use Rattle.wire.specs.declared.refusals.Refusal.{Refusal}
use Rattle.sm160_text.specs.Text.{is_at}
use Rattle.sm160_text.specs.Grammar.{Optional, Attribute, Next, absent, attribute, the_end, letter_of, is_here, line_at, texts_in}
use Rattle.sm160_text.specs.Line.{Seen, seen, text_no}
use Rattle.sm160_text.specs.Reader.{reader_at}
use Rattle.sm160_text.specs.declared.LineReader.{LineReader}

abbrev pub good : ℕ → Seen
good p = record { number = 0; place = p }

-- the characters cs stand from place p on; n is the refusal where one of them does not
unfoldable pub characters : List ℕ → ℕ → List ℕ → ℕ → Seen
characters s p [] n = good p
characters s p (c ∷ cs) n = cond (is_at s p c) (characters s (p + 1) cs n) (record { number = n; place = p })

-- an attribute of a form: what comes of it at place p
abbrev pub comes_of : List ℕ → ℕ → Attribute → List Next
comes_of s p a = cond (is_here s p a) (attribute (letter_of a)) (absent ∷ [])

-- a step from a reader's place: it gives what it read, or refuses, and the reader's place is where reading came to
pub record Walks {A : Type 0} (was : LineReader) (given : A) (is : Seen) (answer : Result A Refusal) (now : LineReader) : Type 0 where
  pub answers : answer ≡ answered refuse (Ok given) is.number
  pub moves : now ≡ reader_at was.bytes is.place

-- what stands at a reader's place, read as this, and its texts
pub record Stands : Type 0 where
  pub seen : Seen
  pub texts : List Optional

abbrev pub stands : LineReader → List Next → Stands
stands reader xs = record { seen = seen reader.bytes.now reader.place xs; texts = texts_in reader.bytes.now reader.place xs }

-- an attribute, and its text
abbrev pub reads : LineReader → Attribute → Stands
reads reader a = stands reader (comes_of reader.bytes.now reader.place a)

abbrev pub the_text : Stands → Optional
the_text x = text_no x.texts 0

abbrev pub ends : LineReader → Seen
ends reader = (stands reader the_end).seen

-- a whole line
abbrev pub line : LineReader → List Attribute → Stands
line reader form = stands reader (line_at form reader.bytes.now reader.place)
