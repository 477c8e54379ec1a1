-- What reading a read-file request or reply answers.
-- Assumes nothing.
use Rattle.std.specs.Prelude.{ℕ, ◌+◌, ◌-◌, Bool, not, ◌||◌, List, [], ◌∷◌, ◌++◌, eqb, length, get_or, Result, Ok, Err}
use Rattle.wire.specs.Refusal.{Rule, ◌when◌, first}
use Rattle.wire.specs.Answer.{judged}
use Rattle.wire.specs.Numbered.{number_of}
use Rattle.wire.specs.declared.refusals.Refusal.{Refusal}
use Rattle.wire.specs.Told.{Told, accepted, refused}
use Rattle.sm160_datagram.specs.Layout.{type_of, options_of, data_of}
use Rattle.sm160_datagram.specs.Reading.{datagram_rules}
use Rattle.sm160_read_file.specs.Layout.{REQUEST, REPLY, name_at, message_at, offset_of, size_of, status_of, text_length_of}
use Rattle.sm160_read_file.specs.declared.Request.{Request}

-- 35 another type
abbrev pub other_type : ℕ → List ℕ → Bool
other_type type d = not (eqb (type_of d) type)

-- options that the text whose length stands at a place, with its closing zero, does not fill exactly, or whose last byte is not that zero. They
-- are so too where they are too short to have that length: a byte past their end reads as 0
abbrev pub bad_text : ℕ → List ℕ → Bool
bad_text at o = not (eqb (at + 3 + text_length_of at o) (length o)) || not (eqb (get_or o (length o - 1) 0) 0)

-- 36 their lengths or closing zero wrong, or data in a request
abbrev pub bad_request : List ℕ → Bool
bad_request d = bad_text name_at (options_of d) || not (eqb (length (data_of d)) 0)

-- 36 their lengths or closing zero wrong
abbrev pub bad_reply : List ℕ → Bool
bad_reply d = bad_text message_at (options_of d)

-- "Reading options, after these", which are 37, 38 and 39: the type, and then what is bad of the options
abbrev pub type_rules : ℕ → List ℕ → List Rule
type_rules type d = datagram_rules d ++ (35 when other_type type d ∷ [])

abbrev pub file_rules : ℕ → Bool → List ℕ → List Rule
file_rules type bad d = type_rules type d ++ (36 when bad ∷ [])

abbrev pub request_rules : List ℕ → List Rule
request_rules d = file_rules REQUEST (bad_request d) d

abbrev pub reply_rules : List ℕ → List Rule
reply_rules d = file_rules REPLY (bad_reply d) d

-- the fields that the bytes of a request hold
abbrev pub request_of : List ℕ → Request
request_of d = record { offset = offset_of (options_of d); size = size_of (options_of d) }

-- the answer is the place and the number of bytes; the name is `text_of name_at (options_of d)`
unfoldable pub read_request : List ℕ → Result Request Refusal
read_request d = judged (request_of d) (first (request_rules d))

-- the answer is the status; the message is `text_of message_at (options_of d)`, and what the file holds `data_of d`
unfoldable pub read_reply : List ℕ → Result ℕ Refusal
read_reply d = judged (status_of (options_of d)) (first (reply_rules d))

abbrev pub told_request_read : Result Request Refusal → Told
told_request_read (Ok r) = accepted (r.offset ∷ r.size ∷ [])
told_request_read (Err e) = refused (number_of e)

abbrev pub told_reply_read : Result ℕ Refusal → Told
told_reply_read (Ok status) = accepted (status ∷ [])
told_reply_read (Err e) = refused (number_of e)
