-- Writing a request's body: 1, 11 and the faults of its fields first, then 17, then 16.
-- Assumes nothing.
use Rattle.std.specs.Prelude.{ℕ, List, [], ◌∷◌, ◌++◌, length}
use Rattle.wire.specs.Refusal.{Rule, ◌when◌}
use Rattle.date.specs.declared.DateTime.{DateTime}
use Rattle.pulsar_body.specs.Fields.{mask_faults, date_faults, not_one, not_date}
use Rattle.pulsar_body.specs.Body.{values_rules, room_rules}
use Rattle.pulsar_request.specs.Layout.{function_of, values_after, values_mask, request_bytes}
use Rattle.pulsar_request.specs.declared.Request.{Request}
use Rattle.pulsar_request.specs.declared.Request.TheVariants as Q

-- the fields, the earlier judged first; an archive kind cannot be wrong
abbrev pub archive_faults : ℕ → DateTime → DateTime → List Rule
archive_faults mask from to = 12 when not_one mask ∷ 13 when not_date from ∷ 13 when not_date to ∷ []

abbrev pub field_faults : Request → List Rule
field_faults (Q.ReadChannels mask) = mask_faults mask
field_faults (Q.WriteChannels mask) = mask_faults mask
field_faults Q.ReadClock = []
field_faults (Q.SetClock d) = date_faults d
field_faults (Q.ReadArchive a) = archive_faults a.mask a.first a.last
field_faults (Q.ReadParameter index) = []
field_faults (Q.WriteParameter index) = []

-- "writing, field faults first, then 17, then 16"; "Writing uses the reading numbers for the same faults"
abbrev pub writing_rules : Request → ℕ → List ℕ → ℕ → List Rule
writing_rules request width values room =
    values_rules (values_after (function_of request)) width (values_mask request) values
    ++ field_faults request
    ++ room_rules (length (request_bytes request values)) room
