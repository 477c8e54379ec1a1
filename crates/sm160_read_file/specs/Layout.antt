-- The options of the datagram that asks for a file and of the one that brings it, as 001 lists their fields; numbers are least significant first.
-- Assumes nothing.
use Rattle.std.specs.Prelude.{ℕ, ◌+◌, List, [], ◌∷◌, ◌++◌, length, take, drop}
use Rattle.wire.specs.Numbers.{le, of_le, field}

-- "the read-file request 07 and reply 87 with their options": the types
abbrev pub REQUEST : ℕ
REQUEST = 0x07

abbrev pub REPLY : ℕ
REPLY = 0x87

-- ---- the bytes of given fields

-- what both end in: the length of a text, the text and a closing zero, which the length does not count. "where a field's size and its named type
-- differ, the size decides": 001 names a length of 4 bytes for a name, and gives it 2
unfoldable pub text_bytes : List ℕ → List ℕ
text_bytes text = le 2 (length text) ++ (text ++ (0 ∷ []))

-- a request's: from which place of the file on (8) and how many bytes of it (8, FFFFFFFFFFFFFFFF for all), and the file's name
unfoldable pub request_options : ℕ → ℕ → List ℕ → List ℕ
request_options offset size name = le 8 offset ++ (le 8 size ++ text_bytes name)

-- a reply's: status code (4), and a message
unfoldable pub reply_options : ℕ → List ℕ → List ℕ
reply_options status message = le 4 status ++ text_bytes message

-- ---- the fields of given options
abbrev pub offset_of : List ℕ → ℕ
offset_of o = of_le (field o 0 8)

abbrev pub size_of : List ℕ → ℕ
size_of o = of_le (field o 8 8)

abbrev pub status_of : List ℕ → ℕ
status_of o = of_le (field o 0 4)

-- where the text's length stands
abbrev pub name_at : ℕ
name_at = 16

abbrev pub message_at : ℕ
message_at = 4

-- the text whose length stands at a place
abbrev pub text_length_of : ℕ → List ℕ → ℕ
text_length_of at o = of_le (field o at 2)

abbrev pub text_of : ℕ → List ℕ → List ℕ
text_of at o = take (text_length_of at o) (drop (at + 2) o)
