-- 01's edge of a card; and beside it both sides of the edges by length, and of writing.
-- Assumes nothing.
use Rattle.std.specs.Prelude.{ℕ, List, [], ◌∷◌, ◌++◌, drop}
use Rattle.wire.specs.Refusal.{first}
use Rattle.wire.specs.Told.{Told, accepted, refused, Edge, ◌gives◌}
use Rattle.wire.specs.Writes.{write_answer, told_written}
use Rattle.reading.specs.declared.Reading.TheVariants.{U32}
use Rattle.card.specs.Layout.{card_bytes}
use Rattle.card.specs.Reading.{read_card, told_card_read}
use Rattle.card.specs.Writing.{write_rules}
use Rattle.card.specs.declared.Card.{Card}

-- the card that 01 prints: "Input 00 00 00 20 00 21 00 00 40 00 00 00 00 00 00 00 A0 gives exactly"
abbrev pub printed : List ℕ
printed =
    0x00 ∷ 0x00 ∷ 0x00 ∷ 0x20 ∷ 0x00 ∷ 0x21 ∷ 0x00 ∷ 0x00 ∷ 0x40 ∷ 0x00 ∷ 0x00 ∷ 0x00 ∷ 0x00 ∷ 0x00 ∷ 0x00 ∷ 0x00 ∷ 0xA0 ∷ []

-- a card with that address, channel and month, and otherwise what it says
abbrev pub changed : ℕ → ℕ → ℕ → Card
changed address channel month =
    record { address = address; channel = channel; time = record { year = 0; month = month; day = 1; hour = 0; minute = 0; second = 0 }; value = U32 5 }

abbrev pub reading : List ℕ → Told
reading s = told_card_read (read_card s)

-- written to an output
abbrev pub writing : Card → List ℕ → Told
writing c out = told_written (write_answer (first (write_rules c out)) (card_bytes c))

-- the card above, read
abbrev pub card_edges : List Edge
card_edges = reading printed gives accepted (1 ∷ 1 ∷ 0 ∷ 1 ∷ 1 ∷ 0 ∷ 0 ∷ 0 ∷ 2 ∷ 5 ∷ []) ∷ []

abbrev pub card_beside : List Edge
card_beside =
    reading (drop 1 printed) gives refused 50
    ∷ reading (printed ++ (0 ∷ [])) gives refused 50
    ∷ writing (changed 1 1 1) printed gives accepted (17 ∷ [])
    ∷ writing (changed 99999999 32 12) printed gives accepted (17 ∷ [])
    ∷ writing (changed 1 0 1) printed gives refused 55
    ∷ writing (changed 1 33 1) printed gives refused 55
    ∷ writing (changed 1 1 1) (drop 1 printed) gives refused 16
    ∷ writing (changed 1 33 1) [] gives refused 55
    ∷ writing (changed 1 33 13) [] gives refused 53
    ∷ writing (changed 0 33 13) [] gives refused 52
    ∷ writing (changed 100000000 33 13) [] gives refused 52
    ∷ []
