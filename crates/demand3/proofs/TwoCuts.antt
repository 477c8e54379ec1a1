-- There are calls with a file that is cut in two ways, a time-out and a repeat in the middle, and what `one_file_by_calls` asks holds of them.
-- Assumes nothing.
use mathlib.Core.Path.{◌≡◌, refl}
use mathlib.Core.Bool.{true, false, true≢false, false≢true}
use mathlib.Core.List.{◌∷◌, ◌++◌}
use Prim.Native.Nat.{ℕ}
use native.Mathlib.Omega.{arith}
use lib.ListN.{take, drop}
use Rattle.wire.specs.Numbers.{digits, number, le, of_le, field}
use Rattle.wire.specs.Refusal.{pick}
use Rattle.checksum.specs.Crc.{crc_bits, remainder}
use Rattle.checksum.specs.Crc32.{crc32_from}
use Rattle.sm160_frame.specs.Layout.{END, crc_due, part_of, is_start, is_end, frame_with, frame_bytes}
use Rattle.sm160_datagram.specs.Layout.{opening_bytes, covered_bytes, closing_bytes, datagram_bytes, crc_due as crc32Due}
use Rattle.sm160_receiver.specs.Receiving.{opened, holding, reached, unfit, refusal, step, Took}
use Rattle.std.specs.Prelude.{Ok}
use Rattle.wire.specs.Numbered.{refusal as by_number}
use Rattle.sm160_receiver.specs.declared.Progress.TheVariants.{Complete}
use Rattle.demand3.specs.Feeding.{Side, side, EndsWith, Fed}
use Rattle.demand3.specs.Calls.{ByCall, Calls}
use Rattle.demand3.specs.OneFile.{StartFirst, EachAccepted, OfOneFile}
use Rattle.demand3.specs.TwoCuts.{twenty_bytes, lent_buffer, stump, piece, two_cuts}
use Rattle.demand3.proofs.ByCalls.{as_calls, from_opening}

abbrev after_stump : Side
after_stump = side (holding 7 8 3) (0 ∷ 0 ∷ 0 ∷ drop 3 lent_buffer)

-- n bytes of the file held, over the stump
abbrev held : ℕ → Side
held n = side (holding 7 8 n) (take n twenty_bytes ++ drop n after_stump.buffer)

abbrev after_cuts : Side
after_cuts = side (opened 7 8) (twenty_bytes ++ drop 20 lent_buffer)

-- nothing is asked of a refused frame, nor END's place of a frame without it
refused : {A : Type 0} → true ≡ false → A
refused e = absurd (true≢false e)

no_end : {A : Type 0} → false ≡ true → A
no_end e = absurd (false≢true e)

pub two_cuts_lem : (σ τ : Side) × Calls 7 8 lent_buffer stump σ × Fed ByCall σ two_cuts τ × OfOneFile twenty_bytes two_cuts × EndsWith (Ok (Complete 20)) two_cuts
unfolding digits number le of_le field pick crc_bits remainder crc_due crc32_from opening_bytes covered_bytes closing_bytes datagram_bytes crc32Due part_of is_start is_end frame_with frame_bytes reached unfit refusal by_number step Took Fed StartFirst EachAccepted
two_cuts_lem = (
  after_stump,
  after_cuts,
  from_opening 7 8 lent_buffer stump after_stump (omega arith) (omega arith) (as_calls (side (opened 7 8) lent_buffer) stump after_stump (after_stump, refl, refl)),
  as_calls after_stump two_cuts after_cuts (held 8, refl, (held 16, refl, (held 16, refl, (held 16, refl, (held 19, refl, (after_cuts, refl, refl)))))),
  record {
    start = (refl, refl);
    stand = (λ _. refl, (λ _. refl, (refused, (refused, (λ _. refl, (λ _. refl, tt))))));
    end = (λ _. no_end, (λ _. no_end, (refused, (refused, (λ _. no_end, (λ _ _. refl, tt))))));
  },
  (take 5 two_cuts, piece END 19 1, refl),
)
