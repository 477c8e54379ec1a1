-- The tables of edges hold: each row is shown of the definitions by computation, where its room is.
-- Assumes nothing.
use mathlib.Core.List.{List, [], ◌∷◌, ◌++◌, flatten}
use Rattle.wire.specs.Told.{Edge, ◌gives◌, AllHold}
use Rattle.checksum.proofs.Edges.{checksum_edges_lem}
use Rattle.pulsar_frame.proofs.Edges.{frame_edges_lem, frame_beside_lem}
use Rattle.pulsar_body_laws.proofs.Edges.{request_edges_lem, request_beside_lem, reply_edges_lem, reply_beside_lem}
use Rattle.card.proofs.Edges.{card_edges_lem, card_beside_lem}
use Rattle.sm160_printed.proofs.Edges.{receiver_edges_lem}
use Rattle.edges.specs.Table.{edges, beside}

-- each table of a list holds
abbrev EachHolds : List (List Edge) → Type 0
EachHolds [] = Unit {0}
EachHolds (table ∷ tables) = AllHold table × EachHolds tables

both : (xs ys : List Edge) → AllHold xs → AllHold ys → AllHold (xs ++ ys)
both [] ys h k = k
both ((told gives said) ∷ xs) ys h k = (h.0, both xs ys h.1 k)

all_hold : (tables : List (List Edge)) → EachHolds tables → AllHold (flatten tables)
unfolding flatten
all_hold [] h = tt
all_hold (table ∷ tables) h = both table (flatten tables) h.0 (all_hold tables h.1)

pub edges_hold : AllHold edges
edges_hold = all_hold _ (checksum_edges_lem, (frame_edges_lem, (reply_edges_lem, (request_edges_lem, (card_edges_lem, (receiver_edges_lem, tt))))))

pub beside_hold : AllHold beside
beside_hold = all_hold _ (frame_beside_lem, (reply_beside_lem, (request_beside_lem, (card_beside_lem, tt))))
