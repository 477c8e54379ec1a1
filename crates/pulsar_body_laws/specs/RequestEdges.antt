-- Both sides of the edges of requests, at width 4.
-- Assumes nothing.
use Rattle.std.specs.Prelude.{List, [], ◌∷◌, ℕ}
use Rattle.wire.specs.Told.{Told, accepted, refused, Edge, ◌gives◌}
use Rattle.pulsar_request.specs.Reading.{read_request, told_request}

abbrev pub asked : ℕ → List ℕ → Told
asked function body = told_request (read_request function 4 body)

-- an 05 request of that month; an 06 request of that type, for channel 3
abbrev pub set_clock : ℕ → List ℕ
set_clock month = 24 ∷ month ∷ 31 ∷ 23 ∷ 59 ∷ 59 ∷ []

abbrev pub archive : ℕ → ℕ → List ℕ
archive low high = 4 ∷ 0 ∷ 0 ∷ 0 ∷ low ∷ high ∷ 24 ∷ 1 ∷ 1 ∷ 0 ∷ 0 ∷ 0 ∷ 24 ∷ 1 ∷ 2 ∷ 0 ∷ 0 ∷ 0 ∷ []

-- 01: month 12 accepted, 13 gives 13
abbrev pub request_edges : List Edge
request_edges =
    asked 5 (set_clock 12) gives accepted (5 ∷ 24 ∷ 12 ∷ 31 ∷ 23 ∷ 59 ∷ 59 ∷ [])
    ∷ asked 5 (set_clock 13) gives refused 13
    ∷ []

-- beside 01's table
abbrev pub request_beside : List Edge
request_beside =
    asked 5 (255 ∷ 255 ∷ 255 ∷ 255 ∷ 255 ∷ 255 ∷ []) gives refused 13
    ∷ asked 6 (archive 4 0) gives accepted (6 ∷ 4 ∷ 4 ∷ 24 ∷ 1 ∷ 1 ∷ 0 ∷ 0 ∷ 0 ∷ 24 ∷ 1 ∷ 2 ∷ 0 ∷ 0 ∷ 0 ∷ [])
    ∷ asked 6 (archive 5 0) gives refused 14
    ∷ asked 6 (archive 0 1) gives refused 14
    ∷ asked 1 (0 ∷ 0 ∷ 0 ∷ 0 ∷ []) gives refused 12
    ∷ asked 2 (0 ∷ 0 ∷ 0 ∷ 0 ∷ []) gives refused 12
    ∷ asked 2 (0 ∷ 0 ∷ 0 ∷ 0 ∷ 0 ∷ 0 ∷ 0 ∷ 0 ∷ []) gives refused 11
    ∷ asked 4 [] gives accepted (4 ∷ [])
    ∷ asked 4 (0 ∷ []) gives refused 11
    ∷ asked 0 [] gives refused 10
    ∷ []
