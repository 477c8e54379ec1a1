-- The layout of a line: what is written of its texts, by the same list of what comes next.
-- Assumes nothing.
use Rattle.std.specs.Prelude.{ℕ, Bool, false, ◌||◌, List, [], ◌∷◌, ◌++◌}
use Rattle.sm160_text.specs.Text.{ends_text}
use Rattle.sm160_text.specs.Grammar.{Attribute, device_list, Next, sign, slash, text, absent, the_tag, attribute, the_end, letter_of}

-- an attribute's text, or none where it is absent
pub data Given : Type 0 where
  none : Given
  has : List ℕ → Given

-- what comes next where an attribute has these texts
abbrev pub chosen_of : Attribute → Given → List Next
chosen_of a none = absent ∷ []
chosen_of a (has t) = attribute (letter_of a)

unfoldable pub chosen : List Attribute → List Given → List Next
chosen [] gs = the_end
chosen (a ∷ form) [] = absent ∷ chosen form []
chosen (a ∷ form) (g ∷ gs) = chosen_of a g ++ chosen form gs

-- its characters, the texts one after another
unfoldable pub spelled : List Next → List Given → List ℕ
spelled [] gs = []
spelled (sign part c ∷ xs) gs = c ∷ spelled xs gs
spelled (slash ∷ xs) gs = 47 ∷ spelled xs gs
spelled (text ∷ xs) (has t ∷ gs) = t ++ spelled xs gs
spelled (text ∷ xs) (none ∷ gs) = spelled xs gs
spelled (text ∷ xs) [] = spelled xs []
spelled (absent ∷ xs) (g ∷ gs) = spelled xs gs
spelled (absent ∷ xs) [] = spelled xs []

-- a line of a form with these texts
unfoldable pub line_bytes : List Attribute → List Given → List ℕ
line_bytes form gs = spelled (the_tag ++ chosen form gs) gs

-- an attribute of a line
unfoldable pub attribute_bytes : ℕ → List ℕ → List ℕ
attribute_bytes c t = spelled (attribute c) (has t ∷ [])

-- a quote or a line feed in a text
unfoldable pub bad_text : List ℕ → Bool
bad_text [] = false
bad_text (b ∷ bs) = ends_text b || bad_text bs

-- a line of the device list
abbrev pub devices : List ℕ → List ℕ → List ℕ → List Given
devices d k s = has d ∷ has k ∷ has s ∷ []

abbrev pub device_bytes : List ℕ → List ℕ → List ℕ → List ℕ
device_bytes d k s = line_bytes device_list (devices d k s)
