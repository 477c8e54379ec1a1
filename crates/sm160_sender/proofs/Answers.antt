-- What the sender owes: where its judge refuses, and otherwise with what writing the frame has done.
-- Assumes nothing.
use mathlib.Core.Path.{◌≡◌, refl, sym, ap, ap₂, ◌∙◌, subst}
use mathlib.Core.List.{List, [], ◌∷◌}
use Prim.Native.Nat.{ℕ, zero, suc, ◌+◌, ◌-◌}
use lib.Dec.{eqb}
use lib.ListN.{length}
use Rattle.std.specs.Prelude.{Result, Ok, Err, IsErr, IsErrAnd}
use Rattle.std.proofs.lemmas.Result.{err_from_is_err_and}
use Rattle.wire.specs.Answer.{judged}
use Rattle.wire.specs.Refusal.{◌when◌, first}
use Rattle.wire.specs.Writes.{Written, Writes, write_output}
use Rattle.wire.specs.declared.refusals.Refusal.{Refusal}
use Rattle.wire.proofs.Answer.{handed_on, none_judged, judged_none, accepted_as}
use Rattle.wire.proofs.Rules.{first_skips, none_first}
use Rattle.sm160_frame.specs.Layout.{frame_bytes}
use Rattle.sm160_frame.specs.Reading.{LARGEST, bad_part, bad_flags}
use Rattle.sm160_frame.specs.Writing.{write_rules, no_room as no_room_for}
use Rattle.sm160_datagram.proofs.Among.{handed_among}
use Rattle.sm160_datagram.proofs.Order.{datagram_none}
use Rattle.sm160_sender.specs.Sending.{part_at, next_place, remains_at, flags_for, flags_at, sent_bytes, past_end, no_room, up_to34, send_rules, Sends}
use Rattle.sm160_sender.specs.declared.Sent.{Sent}
use Rattle.sm160_sender.proofs.Parts.{Sendable, sendable, good_part, flagged}

-- what is refused leaves the output as it was
untouched : {A : Type 0} (x : A) (n : ℕ) (e : Refusal) (bs out : List ℕ) → Err e ≡ judged x n → out ≡ write_output n bs out
untouched x zero e bs out j = absurd (cc)
untouched x (suc n) e bs out j = refl

module _ (file : List ℕ) (session largest place : ℕ) (out : List ℕ) where
  abbrev Bs : List ℕ
  Bs = sent_bytes file session largest place

  abbrev Next : ℕ
  Next = next_place file largest place

  abbrev Done : Sent
  Done = record { length = length Bs; next = Next }

  abbrev N : ℕ
  N = first (send_rules file largest place (length out))

  pub sends_refused : (r : Result Sent Refusal) (e : Refusal) → IsErr r × IsErrAnd r (λ d. d ≡ e) → Err e ≡ judged (tt {0}) (first (up_to34 file largest place))
      → Sends file session largest place out r out
  sends_refused r e exit j =
      let all = handed_among Done (tt {0}) (up_to34 file largest place) (16 when no_room file largest place (length out) ∷ []) r e exit j in
      let p = err_from_is_err_and r exit.1 in
      record { answer = all; output = untouched Done N p.0 Bs out (sym p.1 ∙ all) }

  -- where the judge refuses nothing
  module _ (good : Ok (tt {0}) ≡ judged (tt {0}) (first (up_to34 file largest place))) where
    pub able : Sendable file largest place
    able =
        let h = none_first (up_to34 file largest place) tt (none_judged (tt {0}) _ (tt {0}) good) in
        let d = datagram_none file (34 when past_end file place ∷ []) h.1.1 in
        sendable file largest place h.0 h.1.0 d.0 d.1.0

    -- only room is left to ask for, which the writer of the frame does
    room_asked : first (write_rules (flags_at file largest place) (part_at file largest place) out) ≡ N
    room_asked =
        let part = part_at file largest place in
        let flags = flags_at file largest place in
        let fits = good_part file largest place able LARGEST able.most in
        let said = (flagged (eqb place 0) (eqb (remains_at file largest place) 0)).good in
        first_skips (23 when bad_part LARGEST part ∷ 25 when bad_flags flags ∷ []) (16 when no_room_for part out ∷ []) (fits, (said, tt))
        ∙ sym (first_skips (up_to34 file largest place) (16 when no_room file largest place (length out) ∷ [])
        (none_first (up_to34 file largest place) tt (none_judged (tt {0}) _ (tt {0}) good)))

    -- r and out' are what the writer of the frame answered and left
    module _ (part : List ℕ) (remains flags : ℕ) (r : Written) (out' : List ℕ)
        (ep : part ≡ part_at file largest place) (er : remains ≡ length file - (place + length part)) (ef : flags ≡ flags_for (eqb place 0) (eqb remains 0))
        (w : Writes (first (write_rules flags part out)) (frame_bytes session place flags part) out r out') where
      written : Writes N Bs out r out'
      unfolding sent_bytes
      written =
          let e : flags ≡ flags_at file largest place =
          ef ∙ ap (λ (k : ℕ). flags_for (eqb place 0) (eqb k 0)) (er ∙ ap (λ (p : List ℕ). length file - (place + length p)) ep) in
          subst (λ (n : ℕ). Writes n Bs out r out') room_asked
          (subst (λ (p : List ℕ). Writes (first (write_rules (flags_at file largest place) p out)) (frame_bytes session place (flags_at file largest place) p) out r out') ep
          (subst (λ (f : ℕ). Writes (first (write_rules f part out)) (frame_bytes session place f part) out r out') e w))

      pub sends_no_frame : (a : Result Sent Refusal) (e : Refusal) → IsErr a × IsErrAnd a (λ d. d ≡ e) → r ≡ Err e → Sends file session largest place out a out'
      sends_no_frame a e exit er = record { answer = handed_on Done (length Bs) N a e exit (sym er ∙ written.answer); output = written.output }

      pub sends_frame : (n : ℕ) → r ≡ Ok n → Sends file session largest place out (Ok (record { length = n; next = place + length part })) out'
      sends_frame n er =
          let ok = accepted_as (length Bs) N n (sym written.answer ∙ er) in
          record {
            answer =
                ap₂ (λ (l m : ℕ). Ok (record { length = l; next = m })) (sym ok.1) (ap (λ (p : List ℕ). place + length p) ep)
                ∙ sym (judged_none Done N ok.0);
            output = written.output;
          }

pub sends_once : (file : List ℕ) (session largest place : ℕ) (out : List ℕ) (r r' : Result Sent Refusal) (o o' : List ℕ)
    → Sends file session largest place out r o → Sends file session largest place out r' o' → ◌≡◌ {A = Result Sent Refusal × List ℕ} (r, o) (r', o')
sends_once file session largest place out r r' o o' w w' =
    ap₂ (λ (x : Result Sent Refusal) (y : List ℕ). (x, y)) (w.answer ∙ sym w'.answer) (w.output ∙ sym w'.output)
