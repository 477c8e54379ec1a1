-- Both sides of the edges of replies, at width 4.
-- Assumes nothing.
use Rattle.std.specs.Prelude.{List, [], ◌∷◌, ◌++◌, ℕ, replicate}
use Rattle.wire.specs.Told.{Told, accepted, refused, Edge, ◌gives◌}
use Rattle.reading.specs.Mask.{channel_of}
use Rattle.reading.specs.Reading.{told_value}
use Rattle.reading.specs.Values.{value_at}
use Rattle.reading.specs.declared.Kind.TheVariants as K
use Rattle.pulsar_reply.specs.Layout.{values_of}
use Rattle.pulsar_reply.specs.Reading.{read_reply, told_reply}
use Rattle.pulsar_reply.specs.declared.Reply.TheVariants as P

-- a reply of a function, where that mask was asked
abbrev pub replied : ℕ → ℕ → List ℕ → Told
replied function mask body = told_reply (read_reply function 4 mask body)

-- the whole number at a place of an 01 reply
abbrev pub valued : List ℕ → ℕ → Told
valued body place = told_value (value_at 4 K.U32 (values_of P.Channels body) place)

-- the channel of the value at a place
abbrev pub placed : ℕ → ℕ → Told
placed mask place = accepted (channel_of mask place ∷ [])

abbrev pub two_values : List ℕ
two_values = 7 ∷ 0 ∷ 0 ∷ 0 ∷ 9 ∷ 0 ∷ 0 ∷ 0 ∷ []

-- the 04 reply of that month; six bytes FF; an 06 reply with that lowest byte of its mask, up to its first date
abbrev pub clock : ℕ → List ℕ
clock month = 24 ∷ month ∷ 31 ∷ 23 ∷ 59 ∷ 59 ∷ []

abbrev pub no_clock : List ℕ
no_clock = 255 ∷ 255 ∷ 255 ∷ 255 ∷ 255 ∷ 255 ∷ []

abbrev pub archive : ℕ → List ℕ → List ℕ
archive low first = low ∷ 0 ∷ 0 ∷ 0 ∷ first

-- 01: mask 5, width 4: reply body of 8 is two values, of 7 gives 11; mask 0 with an empty body gives 12
abbrev pub reply_edges : List Edge
reply_edges =
    replied 1 5 two_values gives accepted (1 ∷ [])
    ∷ valued two_values 1 gives accepted (2 ∷ 7 ∷ [])
    ∷ valued two_values 2 gives accepted (2 ∷ 9 ∷ [])
    ∷ valued two_values 3 gives refused 11
    ∷ replied 1 5 (7 ∷ 0 ∷ 0 ∷ 0 ∷ 9 ∷ 0 ∷ 0 ∷ []) gives refused 11
    ∷ replied 1 0 [] gives refused 12
    ∷ []

-- beside 01's table
abbrev pub reply_beside : List Edge
reply_beside =
    placed 5 1 gives accepted (1 ∷ [])
    ∷ placed 5 2 gives accepted (3 ∷ [])
    ∷ replied 1 0 two_values gives refused 11
    ∷ replied 2 5 (0 ∷ 0 ∷ 0 ∷ 0 ∷ []) gives accepted (2 ∷ 0 ∷ [])
    ∷ replied 4 0 (clock 12) gives accepted (4 ∷ 24 ∷ 12 ∷ 31 ∷ 23 ∷ 59 ∷ 59 ∷ [])
    ∷ replied 4 0 (clock 13) gives refused 13
    ∷ replied 4 0 no_clock gives accepted (4 ∷ [])
    ∷ replied 4 0 (255 ∷ 255 ∷ 255 ∷ 255 ∷ 255 ∷ 254 ∷ []) gives refused 13
    ∷ replied 5 0 (1 ∷ 0 ∷ 0 ∷ 0 ∷ []) gives accepted (5 ∷ 1 ∷ [])
    ∷ replied 5 0 (2 ∷ 0 ∷ 0 ∷ 0 ∷ []) gives refused 15
    ∷ replied 5 0 (1 ∷ 0 ∷ 0 ∷ 1 ∷ []) gives refused 15
    ∷ replied 6 0 (archive 4 (clock 12)) gives accepted (6 ∷ 4 ∷ 24 ∷ 12 ∷ 31 ∷ 23 ∷ 59 ∷ 59 ∷ [])
    ∷ replied 6 0 (archive 5 (clock 12)) gives refused 12
    ∷ replied 6 0 (archive 4 no_clock) gives refused 13
    ∷ replied 6 0 (archive 4 (24 ∷ 12 ∷ 31 ∷ 23 ∷ 59 ∷ [])) gives refused 11
    ∷ replied 6 0 (archive 4 (clock 12) ++ two_values) gives accepted (6 ∷ 4 ∷ 24 ∷ 12 ∷ 31 ∷ 23 ∷ 59 ∷ 59 ∷ [])
    ∷ replied 6 0 (archive 4 (clock 12) ++ replicate 232 0) gives accepted (6 ∷ 4 ∷ 24 ∷ 12 ∷ 31 ∷ 23 ∷ 59 ∷ 59 ∷ [])
    ∷ replied 6 0 (archive 4 (clock 12) ++ replicate 236 0) gives refused 11
    ∷ replied 10 0 two_values gives accepted (10 ∷ [])
    ∷ replied 11 0 (0 ∷ 0 ∷ []) gives accepted (11 ∷ [])
    ∷ replied 11 0 (0 ∷ 1 ∷ []) gives refused 15
    ∷ replied 0 0 (200 ∷ []) gives accepted (0 ∷ 200 ∷ [])
    ∷ replied 0 0 [] gives refused 11
    ∷ replied 3 0 [] gives refused 10
    ∷ []
