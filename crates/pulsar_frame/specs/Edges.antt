-- Both sides of the edges of a frame: those that 01 marks P, and others beside them.
-- Assumes nothing.
use Rattle.std.specs.Prelude.{ℕ, List, [], ◌∷◌, take}
use Rattle.wire.specs.Told.{Told, accepted, refused, refused_with, Edge, ◌gives◌}
use Rattle.pulsar_frame.specs.Layout.{frame_bytes}
use Rattle.pulsar_frame.specs.Reading.{read_at_meter, told_frame_read}

-- a clock request, function 04 with no payload, under ID 1; its CRC is good where ADDRESS ends in 78 and LEN is 10
abbrev pub clock_request : ℕ → ℕ → List ℕ
clock_request last len = 0x12 ∷ 0x34 ∷ 0x56 ∷ last ∷ 0x04 ∷ len ∷ 0x01 ∷ 0x00 ∷ 0x39 ∷ 0x83 ∷ []

-- the same with one byte of payload
abbrev pub eleven_bytes : List ℕ
eleven_bytes = 0x12 ∷ 0x34 ∷ 0x56 ∷ 0x78 ∷ 0x04 ∷ 11 ∷ 0x00 ∷ 0x01 ∷ 0x00 ∷ 0x12 ∷ 0xBE ∷ []

abbrev pub at_meter : List ℕ → Told
at_meter s = told_frame_read (read_at_meter 12345678 s)

abbrev pub frame_edges : List Edge
frame_edges =
    at_meter (clock_request 0x78 10) gives accepted (12345678 ∷ 4 ∷ 1 ∷ 10 ∷ [])
    ∷ at_meter (clock_request 0x7A 10) gives refused 3
    ∷ at_meter (take 9 (clock_request 0x78 10)) gives refused 2
    ∷ at_meter (clock_request 0x78 9) gives refused 4
    ∷ at_meter (clock_request 0x78 11) gives refused_with 9 (1 ∷ [])
    ∷ []

-- beside 01's: the clock request written, and a frame of eleven bytes
abbrev pub frame_beside : List Edge
frame_beside =
    accepted (frame_bytes 12345678 4 1 []) gives accepted (clock_request 0x78 10)
    ∷ at_meter eleven_bytes gives accepted (12345678 ∷ 4 ∷ 1 ∷ 11 ∷ [])
    ∷ []
