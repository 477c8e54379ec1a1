-- The bodies of replies. Many-byte fields are least significant first.
-- Assumes nothing.
use Rattle.std.specs.Prelude.{ℕ, cond, List, [], ◌∷◌, ◌++◌, eqb, drop, get_or, Option, None, Some}
use Rattle.wire.specs.Numbers.{le, field}
use Rattle.date.specs.Date.{date_bytes, date_of, no_date, is_no_date}
use Rattle.date.specs.declared.DateTime.{DateTime}
use Rattle.pulsar_body.specs.Fields.{mask_of, date_in}
use Rattle.pulsar_body.specs.declared.Form.{Form}
use Rattle.pulsar_body.specs.declared.Values.{Values}
use Rattle.pulsar_body.specs.declared.Values.TheVariants.{Nothing, Channels, Any, Eight}
use Rattle.pulsar_reply.specs.declared.ArchiveReply.{ArchiveReply}
use Rattle.pulsar_reply.specs.declared.Reply.{Reply}
use Rattle.pulsar_reply.specs.declared.Reply.TheVariants as P
use Rattle.pulsar_reply.specs.declared.Function.{Function}
use Rattle.pulsar_reply.specs.declared.Function.TheVariants as F

-- ---- the functions

abbrev pub function_from : ℕ → Option Function
function_from n =
    cond (eqb n 0x00) (Some F.Error)
    (cond (eqb n 0x01) (Some F.Channels)
    (cond (eqb n 0x02) (Some F.ChannelsWritten)
    (cond (eqb n 0x04) (Some F.Clock)
    (cond (eqb n 0x05) (Some F.ClockSet)
    (cond (eqb n 0x06) (Some F.Archive)
    (cond (eqb n 0x0A) (Some F.Parameter)
    (cond (eqb n 0x0B) (Some F.ParameterWritten) None)))))))

abbrev pub function_of : Reply → Function
function_of (P.Error n) = F.Error
function_of P.Channels = F.Channels
function_of (P.ChannelsWritten mask) = F.ChannelsWritten
function_of (P.Clock d) = F.Clock
function_of P.NoClock = F.Clock
function_of (P.ClockSet status) = F.ClockSet
function_of (P.Archive a) = F.Archive
function_of P.Parameter = F.Parameter
function_of P.ParameterWritten = F.ParameterWritten

abbrev pub function_number : Function → ℕ
function_number F.Error = 0x00
function_number F.Channels = 0x01
function_number F.ChannelsWritten = 0x02
function_number F.Clock = 0x04
function_number F.ClockSet = 0x05
function_number F.Archive = 0x06
function_number F.Parameter = 0x0A
function_number F.ParameterWritten = 0x0B

-- ---- the bytes of a reply: its head, and the value bytes (rising channels in an 01 reply)

-- "reply: one value a channel, all of one width. .. reply: mask. .. reply: date. .. reply: status .. and three zeros. .. reply: mask, first
-- date, 0 or more values. .. reply: 8 bytes. .. reply: 2 zero bytes. Reply 00: one error byte, any number kept."
abbrev pub archive_bytes : ArchiveReply → List ℕ
archive_bytes a = le 4 a.mask ++ date_bytes a.first

abbrev pub head_bytes : Reply → List ℕ
head_bytes (P.Error n) = n ∷ []
head_bytes P.Channels = []
head_bytes (P.ChannelsWritten mask) = le 4 mask
head_bytes (P.Clock d) = date_bytes d
head_bytes P.NoClock = date_bytes no_date
head_bytes (P.ClockSet status) = status ∷ 0 ∷ 0 ∷ 0 ∷ []
head_bytes (P.Archive a) = archive_bytes a
head_bytes P.Parameter = []
head_bytes P.ParameterWritten = 0 ∷ 0 ∷ []

abbrev pub reply_bytes : Reply → List ℕ → List ℕ
reply_bytes reply values = head_bytes reply ++ values

-- how many bytes the head has
abbrev pub head_length : Function → ℕ
head_length F.Error = 1
head_length F.Channels = 0
head_length F.ChannelsWritten = 4
head_length F.Clock = 6
head_length F.ClockSet = 4
head_length F.Archive = 10
head_length F.Parameter = 0
head_length F.ParameterWritten = 2

-- the value bytes that follow it: "one value a channel", "0 or more values", "reply: 8 bytes"
abbrev pub values_after : Function → Values
values_after F.Error = Nothing
values_after F.Channels = Channels
values_after F.ChannelsWritten = Nothing
values_after F.Clock = Nothing
values_after F.ClockSet = Nothing
values_after F.Archive = Any
values_after F.Parameter = Eight
values_after F.ParameterWritten = Nothing

abbrev pub form_of : Function → Form
form_of f = record { head = head_length f; values = values_after f }

-- ---- the fields of given bytes

abbrev pub error_of : List ℕ → ℕ
error_of s = get_or s 0 0

abbrev pub status_of : List ℕ → ℕ
status_of s = get_or s 0 0

abbrev pub first_of : List ℕ → DateTime
first_of s = date_of (field s 4 6)

abbrev pub archive_of : List ℕ → ArchiveReply
archive_of s = record { mask = mask_of s; first = first_of s }

-- "Six bytes FF mean no date"
abbrev pub clock_of : DateTime → Reply
clock_of d = cond (is_no_date d) P.NoClock (P.Clock d)

-- the reply that a body says
abbrev pub reply_of : Function → List ℕ → Reply
reply_of F.Error s = P.Error (error_of s)
reply_of F.Channels s = P.Channels
reply_of F.ChannelsWritten s = P.ChannelsWritten (mask_of s)
reply_of F.Clock s = clock_of (date_in s)
reply_of F.ClockSet s = P.ClockSet (status_of s)
reply_of F.Archive s = P.Archive (archive_of s)
reply_of F.Parameter s = P.Parameter
reply_of F.ParameterWritten s = P.ParameterWritten

-- the value bytes: what follows the head
abbrev pub values_of : Reply → List ℕ → List ℕ
values_of reply s = drop (head_length (function_of reply)) s
