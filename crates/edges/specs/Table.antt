-- Both sides of each edge, as one table: the rooms' own tables, joined. Each row is what is told, and what the paper says.
-- Assumes nothing.
use mathlib.Core.List.{List, [], ◌∷◌, flatten}
use Rattle.wire.specs.Told.{Edge}
use Rattle.checksum.specs.Edges.{checksum_edges}
use Rattle.pulsar_frame.specs.Edges.{frame_edges, frame_beside}
use Rattle.pulsar_body_laws.specs.RequestEdges.{request_edges, request_beside}
use Rattle.pulsar_body_laws.specs.ReplyEdges.{reply_edges, reply_beside}
use Rattle.card.specs.Edges.{card_edges, card_beside}
use Rattle.sm160_printed.specs.Edges.{receiver_edges}

-- those that 01 marks P, in its order: checksum of nothing, of byte 00, of ASCII 123456789; address 12 34 56 78 and 12 34 56 7A, 9 bytes, LEN 9
-- and LEN 11 at the meter (9, 1 missing, since W-205); mask 5 with a body of 8 and of 7, mask 0 with none; month 12 and 13; the card; the receiver at 141 with offsets 141, 73
-- and 142
abbrev pub edges : List Edge
edges = flatten (checksum_edges ∷ frame_edges ∷ reply_edges ∷ request_edges ∷ card_edges ∷ receiver_edges ∷ [])

-- and others beside them
abbrev pub beside : List Edge
beside = flatten (frame_beside ∷ reply_beside ∷ request_beside ∷ card_beside ∷ [])
