-- One step: what it is at a refusal and at none.
-- Assumes nothing.
use mathlib.Core.Path.{◌≡◌, refl, sym, ap, ap₂, ◌∙◌}
use mathlib.Core.Bool.{true, false}
use mathlib.Core.List.{List, ◌++◌}
use Prim.Native.Nat.{ℕ, zero, suc, ◌≤◌}
use native.Mathlib.Omega.{arith}
use borrow.Author.Tests.{eqb-true, ltb-false, not-false}
use lib.ListN.{take}
use lib.Seq.{sets}
use Rattle.std.specs.Prelude.{Result, Ok, Err, IsErr, IsErrAnd}
use Rattle.std.proofs.lemmas.Result.{err_from_is_err_and}
use Rattle.wire.specs.Answer.{answered, judged}
use Rattle.wire.specs.Numbered.{refusal as by_number}
use Rattle.wire.specs.Refusal.{first, NoneHolds}
use Rattle.wire.specs.declared.refusals.Refusal.{Refusal}
use Rattle.wire.proofs.Answer.{none_judged}
use Rattle.wire.proofs.Rules.{none_append, first_none, none_first, asked, unasked}
use Rattle.sm160_frame.specs.Layout.{offset_of, part_of, is_start, is_end}
use Rattle.sm160_frame.specs.Reading.{frame_rules}
use Rattle.sm160_datagram.specs.Reading.{datagram_rules, datagram_fault}
use Rattle.sm160_datagram.proofs.Among.{handed_among, on_among}
use Rattle.sm160_receiver.specs.Receiving.{Accepts, standing, reached, place_rules, file_with, file_rules, up_to31, receive_rules, refusal, refuse, accept, step, Took}
use Rattle.sm160_receiver.specs.declared.Receiver.{Receiver}
use Rattle.sm160_receiver.specs.declared.Progress.{Progress}
use Rattle.sm160_receiver.specs.declared.Progress.TheVariants.{Held, Complete}

-- ---- the rules of the file that a last frame would end
module _ (f b : List ℕ) where
  pub file_unasked : is_end f ≡ false → Ok tt ≡ judged (tt {0}) (first (file_rules b f))
  file_unasked q = ap (judged (tt {0})) (sym (first_none (file_rules b f) (unasked (is_end f) (datagram_rules (file_with b f)) q)))

  -- r is what the code's judge answered of both stretches
  pub file_judged : (held part : List ℕ) (r : Result (Unit {0}) Refusal) → is_end f ≡ true → r ≡ judged tt (datagram_fault (held ++ part)) → held ≡ take (offset_of f) b → part ≡ part_of f
      → r ≡ judged (tt {0}) (first (file_rules b f))
  unfolding datagram_fault
  file_judged held part r q e eh ep =
      e
      ∙ ap₂ (λ (x y : List ℕ). judged (tt {0}) (datagram_fault (x ++ y))) eh ep
      ∙ ap (judged (tt {0})) (sym (asked (is_end f) (datagram_rules (file_with b f)) q))

module _ (s : Receiver) (f b : List ℕ) where
  -- ---- the judges in turn: what either refuses is refused, and where neither does nothing is
  pub refused_before : (e : Refusal) → Err e ≡ judged (tt {0}) (first (up_to31 s b f)) → Err e ≡ judged (tt {0}) (refusal s b f)
  unfolding refusal
  refused_before e j = handed_among (tt {0}) (tt {0}) (up_to31 s b f) (file_rules b f) (Err e) e (refl, refl) j

  pub refused_after : (r : Result (Unit {0}) Refusal) → Ok tt ≡ judged (tt {0}) (first (up_to31 s b f)) → r ≡ judged (tt {0}) (first (file_rules b f)) → r ≡ judged (tt {0}) (refusal s b f)
  unfolding refusal
  refused_after = on_among (tt {0}) (tt {0}) (up_to31 s b f) (file_rules b f) tt (tt {0})

  pub none_refused : Ok tt ≡ judged (tt {0}) (first (up_to31 s b f)) → Ok tt ≡ judged (tt {0}) (first (file_rules b f)) → refusal s b f ≡ 0
  none_refused before after = none_judged (tt {0}) (refusal s b f) (tt {0}) (refused_after (Ok tt) before after)

  -- ---- where no rule refuses, START stands at 0 and any other frame at the count
  module _ (none : refusal s b f ≡ 0) where
    places : NoneHolds (place_rules s b f)
    unfolding refusal
    places = (none_append (frame_rules s.limit f) (place_rules s b f) (none_append (up_to31 s b f) (file_rules b f) (none_first (receive_rules s b f) tt none)).0.1).1

    pub start_at : is_start f ≡ true → 0 ≡ offset_of f
    start_at q = sym (eqb-true _ _ (not-false _ (rw q at places.1.1.0)))

    pub others_at : is_start f ≡ false → s.count ≡ offset_of f
    others_at q =
        let lo : s.count ≤ offset_of f = ltb-false _ _ (rw q at places.1.1.1.0) in
        let hi : offset_of f ≤ s.count = ltb-false _ _ (rw q at places.1.1.1.1.0) in
        omega arith

  -- ---- the two kinds of step
  pub step_refused : (n : ℕ) → n ≡ refusal s b f → (n ≡ 0 → ⊥) → step s f b ≡ refuse n s b
  unfolding step
  step_refused zero e some = absurd (some refl)
  step_refused (suc n) e some = ap (answered (λ k. refuse k s b) (accept s f b)) (sym e)

  pub step_accepted : refusal s b f ≡ 0 → step s f b ≡ accept s f b
  unfolding step
  step_accepted z = ap (answered (λ k. refuse k s b) (accept s f b)) z

  -- r is what a `?` hands on
  pub took_refused : (r : Result Progress Refusal) (e : Refusal) → IsErr r × IsErrAnd r (λ d. d ≡ e) → Err e ≡ judged (tt {0}) (refusal s b f) → Took s f b r s b
  unfolding Took step
  took_refused r e exit j = go (refusal s b f) j
    where
      go : (n : ℕ) → Err e ≡ judged (tt {0}) n → record { answer = r; state = s; buffer = b } ≡ answered (λ k. refuse k s b) (accept s f b) n
      go zero j = absurd (cc)
      go (suc n) j =
          let p = err_from_is_err_and r exit.1 in
          let same : e ≡ by_number (suc n) = cc in
          ap (λ (x : Result Progress Refusal). record { answer = x; state = s; buffer = b }) (p.1 ∙ ap (λ (d : Refusal). Err d) (p.2 ∙ same))

  -- what the code answers and leaves at END, and at any other frame
  module _ (n at : ℕ) (t : Receiver) (b' : List ℕ) (en : n ≡ reached f) (ea : at ≡ offset_of f) (eb : b' ≡ sets b at (part_of f)) where
    pub accepts_last : is_end f ≡ true → t ≡ standing s false 0 → Accepts s f b (Ok (Complete n)) t b'
    unfolding Accepts
    accepts_last q et = rw q (cc)

    pub accepts_other : is_end f ≡ false → t ≡ standing s true n → Accepts s f b (Ok (Held n)) t b'
    unfolding Accepts
    accepts_other q et = rw q (cc)

  pub took_accepted : (a : Result Progress Refusal) (t : Receiver) (b' : List ℕ) → refusal s b f ≡ 0 → Accepts s f b a t b' → Took s f b a t b'
  unfolding Took Accepts
  took_accepted a t b' z h = h ∙ sym (step_accepted z)
