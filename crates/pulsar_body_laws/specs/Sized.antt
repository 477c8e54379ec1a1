-- The numbers of a request and of a reply as wide as their fields: what the types of the code carry.
-- Assumes nothing.
use Rattle.std.specs.Prelude.{◌<◌, ◌^◌}
use Rattle.pulsar_request.specs.declared.Request.{Request}
use Rattle.pulsar_request.specs.declared.Request.TheVariants as Q
use Rattle.pulsar_reply.specs.declared.Reply.{Reply}
use Rattle.pulsar_reply.specs.declared.Reply.TheVariants as P

abbrev pub SizedRequest : Request → Type 0
SizedRequest (Q.ReadChannels mask) = mask < 256 ^ 4
SizedRequest (Q.WriteChannels mask) = mask < 256 ^ 4
SizedRequest Q.ReadClock = Unit {0}
SizedRequest (Q.SetClock d) = Unit {0}
SizedRequest (Q.ReadArchive a) = a.mask < 256 ^ 4
SizedRequest (Q.ReadParameter index) = index < 256 ^ 2
SizedRequest (Q.WriteParameter index) = index < 256 ^ 2

abbrev pub SizedReply : Reply → Type 0
SizedReply (P.Error n) = Unit {0}
SizedReply P.Channels = Unit {0}
SizedReply (P.ChannelsWritten mask) = mask < 256 ^ 4
SizedReply (P.Clock d) = Unit {0}
SizedReply P.NoClock = Unit {0}
SizedReply (P.ClockSet status) = Unit {0}
SizedReply (P.Archive a) = a.mask < 256 ^ 4
SizedReply P.Parameter = Unit {0}
SizedReply P.ParameterWritten = Unit {0}
