-- One file, cut in two ways, as a controller sends it that a time-out stops half way.
-- Assumes nothing.
use Rattle.std.specs.Prelude.{ℕ, List, [], ◌∷◌, take, drop, replicate, Ok}
use Rattle.sm160_frame.specs.Layout.{START, END, frame_bytes}
use Rattle.sm160_datagram.specs.Layout.{datagram_bytes}
use Rattle.wire.specs.Answer.{refuse}
use Rattle.sm160_receiver.specs.declared.Progress.TheVariants.{Held, Complete}
use Rattle.demand3.specs.Feeding.{Exchange, exchange}

abbrev pub twenty_bytes : List ℕ
twenty_bytes = datagram_bytes 7 [] (1 ∷ 2 ∷ [])

abbrev pub lent_buffer : List ℕ
lent_buffer = replicate 21 9

-- the stump of another file, in session 7
abbrev pub stump : List Exchange
stump = exchange (frame_bytes 7 0 START (0 ∷ 0 ∷ 0 ∷ [])) (Ok (Held 3)) ∷ []

-- the frame with n bytes of the file, from a place on
abbrev pub piece : ℕ → ℕ → ℕ → List ℕ
piece flags place n = frame_bytes 7 place flags (take n (drop place twenty_bytes))

-- the twenty bytes by eights; the third frame is cut off; after the time-out the second comes again, and then the rest by threes
abbrev pub two_cuts : List Exchange
two_cuts =
    exchange (piece START 0 8) (Ok (Held 8))
    ∷ exchange (piece 0 8 8) (Ok (Held 16))
    ∷ exchange (take 13 (piece END 16 4)) (refuse 22)
    ∷ exchange (piece 0 8 8) (refuse 29)
    ∷ exchange (piece 0 16 3) (Ok (Held 19))
    ∷ exchange (piece END 19 1) (Ok (Complete 20))
    ∷ []
