-- The edges of requests and of replies hold, computed.
-- Assumes nothing.
use mathlib.Core.Path.{refl}
use Rattle.wire.specs.Numbers.{of_le, field, number}
use Rattle.wire.specs.Numbered.{refusal}
use Rattle.wire.specs.Refusal.{pick}
use Rattle.wire.specs.Told.{AllHold}
use Rattle.date.specs.Date.{is_date, is_no_date}
use Rattle.reading.specs.Mask.{channels_from}
use Rattle.reading.specs.Values.{value_at}
use Rattle.pulsar_request.specs.Reading.{read_request}
use Rattle.pulsar_reply.specs.Reading.{read_reply}
use Rattle.pulsar_body_laws.specs.RequestEdges.{request_edges, request_beside}
use Rattle.pulsar_body_laws.specs.ReplyEdges.{reply_edges, reply_beside}

pub request_edges_lem : AllHold request_edges
unfolding read_request pick refusal field of_le number is_date channels_from
request_edges_lem = (refl, (refl, tt))

pub request_beside_lem : AllHold request_beside
unfolding read_request pick refusal field of_le number is_date channels_from
request_beside_lem = (refl, (refl, (refl, (refl, (refl, (refl, (refl, (refl, (refl, (refl, tt))))))))))

pub reply_edges_lem : AllHold reply_edges
unfolding read_reply pick refusal field of_le number is_date is_no_date channels_from value_at
reply_edges_lem = (refl, (refl, (refl, (refl, (refl, (refl, tt))))))

pub reply_beside_lem : AllHold reply_beside
unfolding read_reply pick refusal field of_le number is_date is_no_date channels_from value_at
reply_beside_lem = (refl, (refl, (refl, (refl, (refl, (refl, (refl, (refl, (refl, (refl, (refl, (refl, (refl, (refl, (refl, (refl, (refl, (refl, (refl, (refl, (refl, (refl, (refl, (refl, tt))))))))))))))))))))))))
