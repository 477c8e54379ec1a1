-- What writing a frame answers, and what the output holds afterwards.
-- Assumes nothing.
use Rattle.std.specs.Prelude.{ℕ, ◌+◌, Bool, List, [], ◌∷◌, ltb, length}
use Rattle.wire.specs.Refusal.{Rule, ◌when◌, first}
use Rattle.wire.specs.Writes.{Written, Writes}
use Rattle.pulsar_frame.specs.Layout.{frame_bytes}
use Rattle.pulsar_frame.specs.Reading.{bad_own, bad_asked}

-- 17 payload above 245
abbrev pub too_long : List ℕ → Bool
too_long payload = ltb 245 (length payload)

-- 16 output shorter than needed
abbrev pub no_room : List ℕ → List ℕ → Bool
no_room payload out = ltb (length out) (length payload + 10)

-- "writing, field faults first, then 17, then 16"
abbrev pub room_rules : List ℕ → List ℕ → List Rule
room_rules payload out = 17 when too_long payload ∷ 16 when no_room payload out ∷ []

abbrev pub request_rules : ℕ → ℕ → List ℕ → List ℕ → List Rule
request_rules address function payload out = 1 when bad_asked address function ∷ room_rules payload out

abbrev pub reply_rules : ℕ → List ℕ → List ℕ → List Rule
reply_rules own payload out = 1 when bad_own own ∷ room_rules payload out

-- a request, a reply: the answer r, and out', which is what out holds afterwards
abbrev pub WritesRequest : ℕ → ℕ → ℕ → List ℕ → List ℕ → Written → List ℕ → Type 0
WritesRequest address function id payload out r out' =
    Writes (first (request_rules address function payload out)) (frame_bytes address function id payload) out r out'

abbrev pub WritesReply : ℕ → ℕ → ℕ → List ℕ → List ℕ → Written → List ℕ → Type 0
WritesReply own function id payload out r out' =
    Writes (first (reply_rules own payload out)) (frame_bytes own function id payload) out r out'
