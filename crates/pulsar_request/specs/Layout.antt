-- The bodies of requests. Many-byte fields are least significant first.
-- Assumes nothing.
use Rattle.std.specs.Prelude.{ℕ, cond, List, [], ◌++◌, eqb, drop, Option, None, Some}
use Rattle.wire.specs.Numbers.{le, of_le, field}
use Rattle.archive.specs.Archive.{type_from, type_number}
use Rattle.date.specs.Date.{date_bytes, date_of}
use Rattle.date.specs.declared.DateTime.{DateTime}
use Rattle.pulsar_body.specs.Fields.{mask_of, date_in}
use Rattle.pulsar_body.specs.declared.Form.{Form}
use Rattle.pulsar_body.specs.declared.Values.{Values}
use Rattle.pulsar_body.specs.declared.Values.TheVariants.{Nothing, Channels, Eight}
use Rattle.pulsar_request.specs.declared.ArchiveRequest.{ArchiveRequest}
use Rattle.pulsar_request.specs.declared.Request.{Request}
use Rattle.pulsar_request.specs.declared.Request.TheVariants as Q
use Rattle.pulsar_request.specs.declared.Function.{Function}
use Rattle.pulsar_request.specs.declared.Function.TheVariants as F

-- ---- the functions

abbrev pub function_from : ℕ → Option Function
function_from n =
    cond (eqb n 0x01) (Some F.ReadChannels)
    (cond (eqb n 0x02) (Some F.WriteChannels)
    (cond (eqb n 0x04) (Some F.ReadClock)
    (cond (eqb n 0x05) (Some F.SetClock)
    (cond (eqb n 0x06) (Some F.ReadArchive)
    (cond (eqb n 0x0A) (Some F.ReadParameter)
    (cond (eqb n 0x0B) (Some F.WriteParameter) None))))))

abbrev pub function_of : Request → Function
function_of (Q.ReadChannels mask) = F.ReadChannels
function_of (Q.WriteChannels mask) = F.WriteChannels
function_of Q.ReadClock = F.ReadClock
function_of (Q.SetClock d) = F.SetClock
function_of (Q.ReadArchive a) = F.ReadArchive
function_of (Q.ReadParameter index) = F.ReadParameter
function_of (Q.WriteParameter index) = F.WriteParameter

abbrev pub function_number : Function → ℕ
function_number F.ReadChannels = 0x01
function_number F.WriteChannels = 0x02
function_number F.ReadClock = 0x04
function_number F.SetClock = 0x05
function_number F.ReadArchive = 0x06
function_number F.ReadParameter = 0x0A
function_number F.WriteParameter = 0x0B

-- ---- the bytes of a request: its head, and the value bytes

-- "01 request: mask; .. 02 request: mask and values; .. 04 request: empty; .. 05 request: date; .. 06 request: mask .. type (2 bytes),
-- first and last date; .. 0A request: index (2); .. 0B request: index, 8 bytes"
abbrev pub archive_bytes : ArchiveRequest → List ℕ
archive_bytes a = le 4 a.mask ++ (le 2 (type_number a.kind) ++ (date_bytes a.first ++ date_bytes a.last))

abbrev pub head_bytes : Request → List ℕ
head_bytes (Q.ReadChannels mask) = le 4 mask
head_bytes (Q.WriteChannels mask) = le 4 mask
head_bytes Q.ReadClock = []
head_bytes (Q.SetClock d) = date_bytes d
head_bytes (Q.ReadArchive a) = archive_bytes a
head_bytes (Q.ReadParameter index) = le 2 index
head_bytes (Q.WriteParameter index) = le 2 index

abbrev pub request_bytes : Request → List ℕ → List ℕ
request_bytes request values = head_bytes request ++ values

-- how many bytes the head has
abbrev pub head_length : Function → ℕ
head_length F.ReadChannels = 4
head_length F.WriteChannels = 4
head_length F.ReadClock = 0
head_length F.SetClock = 6
head_length F.ReadArchive = 18
head_length F.ReadParameter = 2
head_length F.WriteParameter = 2

-- the value bytes that follow it: "mask and values", "index, 8 bytes"
abbrev pub values_after : Function → Values
values_after F.ReadChannels = Nothing
values_after F.WriteChannels = Channels
values_after F.ReadClock = Nothing
values_after F.SetClock = Nothing
values_after F.ReadArchive = Nothing
values_after F.ReadParameter = Nothing
values_after F.WriteParameter = Eight

abbrev pub form_of : Function → Form
form_of f = record { head = head_length f; values = values_after f }

-- the mask of the values, 0 where there are none
abbrev pub values_mask : Request → ℕ
values_mask (Q.ReadChannels mask) = 0
values_mask (Q.WriteChannels mask) = mask
values_mask Q.ReadClock = 0
values_mask (Q.SetClock d) = 0
values_mask (Q.ReadArchive a) = 0
values_mask (Q.ReadParameter index) = 0
values_mask (Q.WriteParameter index) = 0

-- ---- the fields of given bytes

abbrev pub type_of : List ℕ → ℕ
type_of s = of_le (field s 4 2)

abbrev pub first_of : List ℕ → DateTime
first_of s = date_of (field s 6 6)

abbrev pub last_of : List ℕ → DateTime
last_of s = date_of (field s 12 6)

abbrev pub index_of : List ℕ → ℕ
index_of s = of_le (field s 0 2)

abbrev pub archive_of : List ℕ → ArchiveRequest
archive_of s = record { mask = mask_of s; kind = type_from (type_of s); first = first_of s; last = last_of s }

-- "A decoded request is one of seven kinds": the request that a body says
abbrev pub request_of : Function → List ℕ → Request
request_of F.ReadChannels s = Q.ReadChannels (mask_of s)
request_of F.WriteChannels s = Q.WriteChannels (mask_of s)
request_of F.ReadClock s = Q.ReadClock
request_of F.SetClock s = Q.SetClock (date_in s)
request_of F.ReadArchive s = Q.ReadArchive (archive_of s)
request_of F.ReadParameter s = Q.ReadParameter (index_of s)
request_of F.WriteParameter s = Q.WriteParameter (index_of s)

-- the value bytes: what follows the head
abbrev pub values_of : Request → List ℕ → List ℕ
values_of request s = drop (head_length (function_of request)) s
