-- A line of both files, <r A="text" B="text" /> and a line feed, as a list of what comes next.
-- Assumes nothing.
use Rattle.std.specs.Prelude.{ℕ, ◌+◌, Bool, true, not, ◌&&◌, ◌||◌, cond, List, [], ◌∷◌, ◌++◌, map, ltb, get_or, Option, Some, None}
use Prim.Native.String as S
use Rattle.wire.specs.Digits.{ascii}
use Rattle.wire.specs.Refusal.{Rule, ◌when◌}
use Rattle.sm160_text.specs.Text.{blank, quote, is_at, text_end, text_at}
use Rattle.sm160_text.specs.declared.Span.{Span}

-- ---- the attributes of a line, in their order, each by its letter
pub data Attribute : Type 0 where
  needed : ℕ → Attribute
  optional : ℕ → Attribute

abbrev pub letter : S.String → ℕ
letter name = get_or (ascii name) 0 0

-- "R (optional), S, N, V, E, C and T (optional, 0 when absent)"; 001 has C optional too
unfoldable pub archive : List Attribute
archive =
    optional (letter "R")
    ∷ needed (letter "S")
    ∷ needed (letter "N")
    ∷ needed (letter "V")
    ∷ needed (letter "E")
    ∷ optional (letter "C")
    ∷ optional (letter "T")
    ∷ []

-- "The device list has D, K and S."
unfoldable pub device_list : List Attribute
device_list = needed (letter "D") ∷ needed (letter "K") ∷ needed (letter "S") ∷ []

-- ---- what comes next

-- what a character belongs to; where another one stands, or none, its number is the refusal
pub data Part : Type 0 where
  tag : Part
  name : Part
  quotes : Part
  end : Part

abbrev pub number_of : Part → ℕ
-- 90 tag
number_of tag = 90
-- 91 attribute missing or out of order
number_of name = 91
-- 92 quote
number_of quotes = 92
-- 93 line without its end
number_of end = 93

pub data Next : Type 0 where
  -- this character, of this part
  sign : Part → ℕ → Next
  -- the slash of the end: a letter in its place is an attribute that is unknown, late or given twice
  slash : Next
  -- a text, of any characters but a quote and a line feed
  text : Next
  -- an attribute that is absent: nothing comes
  absent : Next

abbrev pub signs : Part → List ℕ → List Next
signs part cs = map (sign part) cs

-- "tag r"
abbrev pub the_tag : List Next
the_tag = signs tag (ascii "<r")

-- "one blank before each"; the equals sign belongs to the name
abbrev pub attribute : ℕ → List Next
attribute c = signs name (blank ∷ c ∷ ascii "=") ++ (sign quotes quote ∷ text ∷ sign quotes quote ∷ [])

-- "blank and slash before the end"
abbrev pub the_end : List Next
the_end = sign end blank ∷ slash ∷ signs end (ascii ">\n")

-- ---- where it comes

-- an optional attribute is there where a blank and its letter stand
abbrev pub is_here : List ℕ → ℕ → Attribute → Bool
is_here s p (needed c) = true
is_here s p (optional c) = is_at s p blank && is_at s (p + 1) c

abbrev pub letter_of : Attribute → ℕ
letter_of (needed c) = c
letter_of (optional c) = c

-- the place after it
abbrev pub past : List ℕ → ℕ → Next → ℕ
past s p (sign part c) = p + 1
past s p slash = p + 1
past s p text = text_end s p
past s p absent = p

unfoldable pub past_all : List ℕ → ℕ → List Next → ℕ
past_all s p [] = p
past_all s p (x ∷ xs) = past_all s (past s p x) xs

-- "Attributes come in the order given": what comes from place p on, where these are still to come
unfoldable pub comes : List ℕ → ℕ → List Attribute → List Next
comes s p [] = the_end
comes s p (a ∷ more) = cond (is_here s p a) (attribute (letter_of a) ++ comes s (past_all s p (attribute (letter_of a))) more) (absent ∷ comes s p more)

-- a line whose attributes are those of the form
abbrev pub line_at : List Attribute → List ℕ → ℕ → List Next
line_at form s p = the_tag ++ comes s (past_all s p the_tag) form

-- ---- what is refused of what stands there

abbrev pub is_letter : ℕ → Bool
is_letter b = (ltb 64 b && ltb b 91) || (ltb 96 b && ltb b 123)

abbrev pub rules_at : List ℕ → ℕ → Next → List Rule
rules_at s p (sign part c) = number_of part when not (is_at s p c) ∷ []
rules_at s p slash = 91 when is_letter (get_or s p 0) ∷ 93 when not (is_at s p 47) ∷ []
rules_at s p text = []
rules_at s p absent = []

-- each at its place
pub record Placed : Type 0 where
  pub place : ℕ
  pub what : Next

unfoldable pub placed : List ℕ → ℕ → List Next → List Placed
placed s p [] = []
placed s p (x ∷ xs) = record { place = p; what = x } ∷ placed s (past s p x) xs

abbrev pub place_rules : List ℕ → Placed → List Rule
place_rules s x = rules_at s x.place x.what

-- ---- the texts: one for each attribute of the form, none where it is absent
abbrev pub Optional : Type 0
Optional = Option Span

unfoldable pub texts_in : List ℕ → ℕ → List Next → List Optional
texts_in s p [] = []
texts_in s p (text ∷ xs) = Some (text_at s p) ∷ texts_in s (text_end s p) xs
texts_in s p (absent ∷ xs) = None ∷ texts_in s p xs
texts_in s p (sign part c ∷ xs) = texts_in s (p + 1) xs
texts_in s p (slash ∷ xs) = texts_in s (p + 1) xs
