-- Writing a reply's body: 1, 11 and the faults of its fields first, then 17, then 16. The mask is the asked one and matters to the 01 reply alone.
-- Assumes nothing.
use Rattle.std.specs.Prelude.{ℕ, List, [], ◌∷◌, ◌++◌, length}
use Rattle.wire.specs.Refusal.{Rule, ◌when◌}
use Rattle.pulsar_body.specs.Fields.{mask_faults, date_faults}
use Rattle.pulsar_body.specs.Body.{values_rules, room_rules}
use Rattle.pulsar_reply.specs.Layout.{function_of, values_after, reply_bytes}
use Rattle.pulsar_reply.specs.Fields.{bad_status, archive_faults}
use Rattle.pulsar_reply.specs.declared.Reply.{Reply}
use Rattle.pulsar_reply.specs.declared.Reply.TheVariants as P

abbrev pub status_faults : ℕ → List Rule
status_faults status = 15 when bad_status status ∷ []

-- the fields, the earlier judged first; six numbers 255 given as a date are none
abbrev pub field_faults : Reply → ℕ → List Rule
field_faults (P.Error n) mask = []
field_faults P.Channels mask = mask_faults mask
field_faults (P.ChannelsWritten m) mask = []
field_faults (P.Clock d) mask = date_faults d
field_faults P.NoClock mask = []
field_faults (P.ClockSet status) mask = status_faults status
field_faults (P.Archive a) mask = archive_faults a.mask a.first
field_faults P.Parameter mask = []
field_faults P.ParameterWritten mask = []

-- "writing, field faults first, then 17, then 16"; "Writing uses the reading numbers for the same faults"
abbrev pub writing_rules : Reply → ℕ → ℕ → List ℕ → ℕ → List Rule
writing_rules reply width mask values room =
    values_rules (values_after (function_of reply)) width mask values
    ++ field_faults reply mask
    ++ room_rules (length (reply_bytes reply values)) room
