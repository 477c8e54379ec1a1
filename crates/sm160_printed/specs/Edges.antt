-- 01's edge: a receiver of session 2 at 141, opened with 68 as its largest part, with 68 good bytes at offset 141, 73 and 142.
-- Assumes nothing.
use Rattle.std.specs.Prelude.{List, [], ◌∷◌, ℕ, replicate}
use Rattle.wire.specs.Told.{Told, accepted, refused, Edge, ◌gives◌}
use Rattle.sm160_frame.specs.Layout.{part_of, frame_bytes}
use Rattle.sm160_receiver.specs.Receiving.{holding, step, told_answer}
use Rattle.sm160_printed.specs.Printed.{reply141}

-- a frame without flags that brings the 68 bytes of the printed frame at an offset
abbrev pub brought_at : ℕ → List ℕ
brought_at offset = frame_bytes 2 offset 0 (part_of reply141)

-- what the receiver, with a buffer of 318 bytes, tells to it
abbrev pub at141 : ℕ → Told
at141 offset = told_answer (step (holding 2 68 141) (brought_at offset) (replicate 318 0)).answer

abbrev pub receiver_edges : List Edge
receiver_edges =
    at141 141 gives accepted (0 ∷ 209 ∷ [])
    ∷ at141 73 gives refused 29
    ∷ at141 142 gives refused 30
    ∷ []
