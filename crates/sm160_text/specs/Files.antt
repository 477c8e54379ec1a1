-- What an absent attribute means, and whole files.
-- Assumes nothing.
use Rattle.std.specs.Prelude.{ℕ, List, Option, Some, None}
use Rattle.wire.specs.Digits.{ascii}
use Rattle.sm160_text.specs.Text.{text_of}
use Rattle.sm160_text.specs.declared.Span.{Span}
use Rattle.sm160_text.specs.Grammar.{Optional}
use Rattle.sm160_text.specs.declared.ArchiveRecord.{ArchiveRecord}
use Rattle.sm160_text.specs.declared.Attribute.{Attribute}
use Rattle.sm160_text.specs.declared.Attribute.TheVariants as Of

-- what an attribute means: a text of the file, or none for the text 0
abbrev pub Meaning : Type 0
Meaning = Option Span

-- "0 when absent": of C and T
abbrev pub or_zero : Optional → Meaning
or_zero given = given

-- 001: where R is absent, its value is that of S
abbrev pub or_else : Optional → Span → Meaning
or_else (Some span) other = Some span
or_else None other = Some other

abbrev pub meaning : ArchiveRecord → Attribute → Meaning
meaning given Of.R = or_else given.r given.s
meaning given Of.S = Some given.s
meaning given Of.N = Some given.n
meaning given Of.V = Some given.v
meaning given Of.E = Some given.e
meaning given Of.C = or_zero given.c
meaning given Of.T = or_zero given.t

-- the text that it is
abbrev pub meant_text : List ℕ → Meaning → List ℕ
meant_text s (Some span) = text_of s span
meant_text s None = ascii "0"
