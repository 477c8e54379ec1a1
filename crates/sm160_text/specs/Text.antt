-- What stands at a place of a file, and the text from a place up to what ends it.
-- Assumes nothing.
use Rattle.std.specs.Prelude.{ℕ, suc, ◌+◌, ◌-◌, Bool, false, ◌||◌, cond, List, [], ◌∷◌, eqb, take, drop}
use Rattle.sm160_text.specs.declared.Span.{Span}

abbrev pub blank : ℕ
blank = 32

abbrev pub quote : ℕ
quote = 34

abbrev pub line_feed : ℕ
line_feed = 10

-- what a list begins with
abbrev pub begins : List ℕ → ℕ → Bool
begins [] c = false
begins (b ∷ bs) c = eqb b c

-- the character c stands at place p of s: none stands beyond the end
unfoldable pub is_at : List ℕ → ℕ → ℕ → Bool
is_at s p c = begins (drop p s) c

-- "the text between its quotes": any characters but a quote and a line feed
abbrev pub ends_text : ℕ → Bool
ends_text b = eqb b quote || eqb b line_feed

-- how many characters of a list are text
unfoldable pub run : List ℕ → ℕ
run [] = 0
run (b ∷ bs) = cond (ends_text b) 0 (suc (run bs))

-- where the text ends that begins at place p: at the first quote or line feed, or at the file's end
unfoldable pub text_end : List ℕ → ℕ → ℕ
text_end s p = p + run (drop p s)

abbrev pub text_at : List ℕ → ℕ → Span
text_at s p = record { start = p; end = text_end s p }

-- the part of the file that is a text
unfoldable pub text_of : List ℕ → Span → List ℕ
text_of s span = take (span.end - span.start) (drop span.start s)
