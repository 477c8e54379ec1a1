-- Reading a request's body: 1, 10, 11, and then its fields in their order.
-- Assumes nothing.
use Rattle.std.specs.Prelude.{ℕ, Bool, ◌||◌, List, [], ◌∷◌, ◌++◌, eqb, ltb, Option, Result, Ok, Err}
use Rattle.wire.specs.Refusal.{Rule, ◌when◌}
use Rattle.wire.specs.Numbered.{number_of}
use Rattle.wire.specs.Told.{Told, accepted, refused}
use Rattle.wire.specs.declared.refusals.Refusal.{Refusal}
use Rattle.archive.specs.Archive.{type_number}
use Rattle.date.specs.Date.{date_bytes}
use Rattle.date.specs.declared.DateTime.{DateTime}
use Rattle.pulsar_body.specs.Fields.{mask_of, date_in, mask_faults, date_faults, not_one, not_date}
use Rattle.pulsar_body.specs.Body.{reading_rules, reading_answer}
use Rattle.pulsar_request.specs.Layout.{function_from, function_of, function_number, form_of, type_of, first_of, last_of, request_of}
use Rattle.pulsar_request.specs.declared.Request.{Request}
use Rattle.pulsar_request.specs.declared.Request.TheVariants as Q
use Rattle.pulsar_request.specs.declared.Function.{Function}
use Rattle.pulsar_request.specs.declared.Function.TheVariants as F

-- 14 archive type not 1..4
abbrev pub bad_type : ℕ → Bool
bad_type type = eqb type 0 || ltb 4 type

abbrev pub type_rules : ℕ → List Rule
type_rules type = 14 when bad_type type ∷ []

-- the fields, the earlier judged first
abbrev pub archive_rules : ℕ → ℕ → DateTime → DateTime → List Rule
archive_rules mask type from to =
    12 when not_one mask
    ∷ 14 when bad_type type
    ∷ 13 when not_date from
    ∷ 13 when not_date to
    ∷ []

abbrev pub field_rules : Function → List ℕ → List Rule
field_rules F.ReadChannels s = mask_faults (mask_of s)
field_rules F.WriteChannels s = mask_faults (mask_of s)
field_rules F.ReadClock s = []
field_rules F.SetClock s = date_faults (date_in s)
field_rules F.ReadArchive s = archive_rules (mask_of s) (type_of s) (first_of s) (last_of s)
field_rules F.ReadParameter s = []
field_rules F.WriteParameter s = []

-- what is judged of every body, and then the fields; 10 too of function 0, which is none in a request
abbrev pub request_rules : Option Function → ℕ → List ℕ → List Rule
request_rules function width s = reading_rules form_of (λ f. field_rules f s) function width (mask_of s) s

unfoldable pub read_request : ℕ → ℕ → List ℕ → Result Request Refusal
read_request number width s = reading_answer form_of (λ f. field_rules f s) (λ f. request_of f s) (function_from number) width (mask_of s) s

-- a request by the paper's numbers: its function, and its fields
abbrev pub field_numbers : Request → List ℕ
field_numbers (Q.ReadChannels mask) = mask ∷ []
field_numbers (Q.WriteChannels mask) = mask ∷ []
field_numbers Q.ReadClock = []
field_numbers (Q.SetClock d) = date_bytes d
field_numbers (Q.ReadArchive a) = a.mask ∷ type_number a.kind ∷ (date_bytes a.first ++ date_bytes a.last)
field_numbers (Q.ReadParameter index) = index ∷ []
field_numbers (Q.WriteParameter index) = index ∷ []

abbrev pub told_request : Result Request Refusal → Told
told_request (Ok request) = accepted (function_number (function_of request) ∷ field_numbers request)
told_request (Err e) = refused (number_of e)
