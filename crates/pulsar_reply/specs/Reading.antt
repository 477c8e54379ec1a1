-- Reading a reply's body: 1, 10, 11, and then its fields in their order. The asked mask matters to the 01 reply alone.
-- Assumes nothing.
use Rattle.std.specs.Prelude.{ℕ, List, [], ◌∷◌, Option, Result, Ok, Err}
use Rattle.wire.specs.Refusal.{Rule, ◌when◌}
use Rattle.wire.specs.Numbered.{number_of}
use Rattle.wire.specs.Told.{Told, accepted, refused}
use Rattle.wire.specs.declared.refusals.Refusal.{Refusal}
use Rattle.date.specs.Date.{date_bytes}
use Rattle.date.specs.declared.DateTime.{DateTime}
use Rattle.pulsar_body.specs.Fields.{mask_of, date_in, mask_faults}
use Rattle.pulsar_body.specs.Body.{reading_rules, reading_answer}
use Rattle.pulsar_reply.specs.Layout.{function_from, function_of, function_number, form_of, status_of, first_of, reply_of}
use Rattle.pulsar_reply.specs.Fields.{not_clock, bad_status, not_three_zeros, not_two_zeros, archive_faults}
use Rattle.pulsar_reply.specs.declared.Reply.{Reply}
use Rattle.pulsar_reply.specs.declared.Reply.TheVariants as P
use Rattle.pulsar_reply.specs.declared.Function.{Function}
use Rattle.pulsar_reply.specs.declared.Function.TheVariants as F

-- the rules of a body whose judged field is the clock, and of the status with its zeros, and of two zeros
abbrev pub clock_rules : DateTime → List Rule
clock_rules d = 13 when not_clock d ∷ []

abbrev pub status_rules : List ℕ → List Rule
status_rules s = 15 when bad_status (status_of s) ∷ 15 when not_three_zeros s ∷ []

abbrev pub zeros_rules : List ℕ → List Rule
zeros_rules s = 15 when not_two_zeros s ∷ []

-- the fields, the earlier judged first; any mask is good in an 02 reply
abbrev pub field_rules : Function → ℕ → List ℕ → List Rule
field_rules F.Error mask s = []
field_rules F.Channels mask s = mask_faults mask
field_rules F.ChannelsWritten mask s = []
field_rules F.Clock mask s = clock_rules (date_in s)
field_rules F.ClockSet mask s = status_rules s
field_rules F.Archive mask s = archive_faults (mask_of s) (first_of s)
field_rules F.Parameter mask s = []
field_rules F.ParameterWritten mask s = zeros_rules s

-- what is judged of every body, and then the fields
abbrev pub reply_rules : Option Function → ℕ → ℕ → List ℕ → List Rule
reply_rules function width mask s = reading_rules form_of (λ f. field_rules f mask s) function width mask s

unfoldable pub read_reply : ℕ → ℕ → ℕ → List ℕ → Result Reply Refusal
read_reply number width mask s = reading_answer form_of (λ f. field_rules f mask s) (λ f. reply_of f s) (function_from number) width mask s

-- a reply by the paper's numbers: its function, and its fields (no date has none)
abbrev pub field_numbers : Reply → List ℕ
field_numbers (P.Error n) = n ∷ []
field_numbers P.Channels = []
field_numbers (P.ChannelsWritten mask) = mask ∷ []
field_numbers (P.Clock d) = date_bytes d
field_numbers P.NoClock = []
field_numbers (P.ClockSet status) = status ∷ []
field_numbers (P.Archive a) = a.mask ∷ date_bytes a.first
field_numbers P.Parameter = []
field_numbers P.ParameterWritten = []

abbrev pub told_reply : Result Reply Refusal → Told
told_reply (Ok reply) = accepted (function_number (function_of reply) ∷ field_numbers reply)
told_reply (Err e) = refused (number_of e)
