-- A file sent from place 0 on, by the answered places, is a datagram and is carried by good frames; and every datagram of up to 4,294,967,295 bytes
-- can be sent so.
-- Assumes nothing.
use mathlib.Core.Path.{◌≡◌, refl, sym, ap, ap₂, ◌∙◌, subst}
use mathlib.Core.Bool.{Bool, true, false}
use mathlib.Core.List.{List, [], ◌∷◌, ◌++◌}
use Prim.Native.Nat.{ℕ, zero, suc, ◌+◌, ◌-◌, ◌≤◌, ◌<◌}
use native.Mathlib.Omega.{arith}
use lib.Dec.{eqb}
use lib.ListN.{length, take, drop}
use lib.Seq.{drop-drop, drop-length, take-append_seam}
use borrow.Author.Tests.{eq-eqb, ne_eqb, eqb-true, eqb-false, le-ltb, lt-leb}
use Rattle.wire.specs.Each.{Bytes}
use Rattle.wire.specs.Numbers.{over}
use Rattle.std.specs.Prelude.{Ok}
use Rattle.wire.specs.Answer.{judged}
use Rattle.wire.specs.Writes.{write_output}
use Rattle.wire.specs.Refusal.{first}
use Rattle.wire.proofs.Answer.{judged_none, accepted_as}
use Rattle.wire.proofs.Each.{each_drop, each_take}
use Rattle.wire.proofs.Rules.{first_none, none_first}
use Rattle.sm160_frame.specs.Layout.{START, END, has, part_of, is_start, is_end}
use Rattle.sm160_frame.specs.Reading.{bad_largest}
use Rattle.sm160_datagram.specs.Reading.{datagram_fault}
use Rattle.sm160_frame.specs.Carried.{Carries, none, InTurn, joined, Carried}
use Rattle.sm160_frame.proofs.Bytes.{made_session, made_offset, made_flags, made_part, made_good}
use Rattle.sm160_sender.specs.Sending.{part_at, next_place, remains_at, flags_at, sent_bytes, bad_file, past_end, no_room, send_rules, Sends}
use Rattle.sm160_sender.specs.Whole.{Call, SentInTurn, sent_frames}
use Rattle.sm160_sender.specs.declared.Sent.{Sent}
use Rattle.sm160_sender.proofs.Parts.{Sendable, sendable, may_send, sends_none, length_part, good_part, flagged}

take_then_drop : (n : ℕ) (xs : List ℕ) → take n xs ++ drop (length (take n xs)) xs ≡ xs
take_then_drop zero xs = refl
take_then_drop (suc n) [] = refl
take_then_drop (suc n) (x ∷ xs) = ap (λ (l : List ℕ). x ∷ l) (take_then_drop n xs)

-- ---- one call
abbrev sent_as : ℕ → ℕ → Sent
sent_as l next = record { length = l; next = next }

accepted : (n : ℕ) (bs : List ℕ) (m l next : ℕ) → Ok (sent_as l next) ≡ judged (sent_as (length bs) m) n → (n ≡ 0) × (l ≡ length bs) × (next ≡ m)
accepted n bs m l next e =
    let ok = accepted_as (sent_as (length bs) m) n (sent_as l next) (sym e) in
    (ok.0, ap (λ (s : Sent). s.length) (sym ok.1), ap (λ (s : Sent). s.next) (sym ok.1))

module _ (file : List ℕ) (session largest : ℕ) where
  -- what a call that wrote a frame has done
  record Wrote (place l next : ℕ) (out' : List ℕ) : Type 0 where
    able : Sendable file largest place
    frame : take l out' ≡ sent_bytes file session largest place
    goes : next ≡ next_place file largest place

  wrote : (place : ℕ) (out : List ℕ) (l next : ℕ) (out' : List ℕ) → Sends file session largest place out (Ok (sent_as l next)) out' → Wrote place l next out'
  unfolding over
  wrote place out l next out' w =
      let rules = send_rules file largest place (length out) in
      let bs = sent_bytes file session largest place in
      let ok = accepted (first rules) bs (next_place file largest place) l next w.answer in
      record {
        able = (may_send file largest place (length out) (none_first rules tt ok.0)).0;
        frame =
            ap₂ (λ (n : ℕ) (o : List ℕ). take n o) ok.1 (w.output ∙ ap (λ (k : ℕ). write_output k bs out) ok.0)
            ∙ take-append_seam bs (drop (length bs) out);
        goes = ok.2;
      }

  -- the largest part is within the limit that was agreed on
  module _ (bytes : Bytes file) (fits : session < 65536) (limit : ℕ) (agreed : largest ≤ limit) (place : ℕ) (g : Sendable file largest place) where
    abbrev Part : List ℕ
    Part = part_at file largest place

    abbrev Last : Bool
    Last = eqb (remains_at file largest place) 0

    sent_part : part_of (sent_bytes file session largest place) ≡ Part
    unfolding sent_bytes
    sent_part = made_part session place (flags_at file largest place) Part

    sent_carries : Carries session limit place (eqb place 0) Last (sent_bytes file session largest place)
    unfolding sent_bytes is_start is_end
    sent_carries =
        let flags = flags_at file largest place in
        let said = flagged (eqb place 0) Last in
        let part_bytes = each_take (λ b. b < 256) largest (drop place file) (each_drop (λ b. b < 256) place file bytes) in
        let ef = made_flags session place flags Part (omega (arith, said.few)) in
        record {
          good = made_good session place flags Part limit (omega (arith, (length_part file largest place g).1, g.most)) part_bytes (good_part file largest place g limit agreed) said.good;
          ours = made_session session place flags Part fits;
          placed = made_offset session place flags Part (omega (arith, g.small, g.inside));
          starts = ap (has START) ef ∙ said.starts;
          ends = ap (has END) ef ∙ said.ends;
        }

  -- ---- calls in turn

  -- nothing remains just where no call follows
  ends_last : (place : ℕ) (cs : List Call) → SentInTurn file session largest place cs → eqb (length file - place) 0 ≡ none (sent_frames cs)
  unfolding SentInTurn sent_frames
  ends_last place [] h = eq-eqb (length file - place) 0 (omega arith)
  ends_last place (c ∷ cs) h =
      let w = wrote place c.lent c.size c.next c.after h.0 in
      ne_eqb (length file - place) 0 (λ e. omega (arith, w.able.inside, e))

  module _ (bytes : Bytes file) (fits : session < 65536) (limit : ℕ) (agreed : largest ≤ limit) where
    from_place : (place : ℕ) (cs : List Call) → SentInTurn file session largest place cs
        → (joined (sent_frames cs) ≡ drop place file) × InTurn session limit place (eqb place 0) (sent_frames cs)
    unfolding SentInTurn sent_frames joined InTurn
    from_place place [] h = (sym (ap (λ (k : ℕ). drop k file) h ∙ drop-length file), tt)
    from_place place (c ∷ cs) h =
        let w = wrote place c.lent c.size c.next c.after h.0 in
        let rest = from_place c.next cs h.1 in
        let n = length_part file largest place w.able in
        let part : part_of (take c.size c.after) ≡ part_at file largest place = ap part_of w.frame ∙ sent_part bytes fits limit agreed place w.able in
        let later : eqb c.next 0 ≡ false = ne_eqb c.next 0 (λ e. omega (arith, w.goes, n.0, e)) in
        let last : eqb (remains_at file largest place) 0 ≡ none (sent_frames cs) =
        ap (λ (k : ℕ). eqb (length file - k) 0) (sym w.goes) ∙ ends_last c.next cs h.1 in
        let here : Carries session limit place (eqb place 0) (none (sent_frames cs)) (take c.size c.after) =
        subst (λ (f : List ℕ). Carries session limit place (eqb place 0) (none (sent_frames cs)) f) (sym w.frame)
        (subst (λ (b : Bool). Carries session limit place (eqb place 0) b (sent_bytes file session largest place)) last (sent_carries bytes fits limit agreed place w.able)) in
        let next : c.next ≡ place + length (part_of (take c.size c.after)) = w.goes ∙ ap (λ (p : List ℕ). place + length p) (sym part) in (
          ap₂ (λ (x y : List ℕ). x ++ y) part
              (rest.0 ∙ ap (λ (k : ℕ). drop k file) w.goes ∙ sym (drop-drop (length (part_at file largest place)) place file))
              ∙ take_then_drop largest (drop place file),
          (here, subst (λ (k : ℕ). InTurn session limit k false (sent_frames cs)) next (subst (λ (b : Bool). InTurn session limit c.next b (sent_frames cs)) later rest.1)),
        )

    -- Sent from place 0 on, by the answered places, the file is carried by the frames: they are good, with parts up to the limit, their parts
    -- joined are the file, each is for its place, START is on the first only and END on the last only.
    pub sent : (cs : List Call) → SentInTurn file session largest 0 cs → Carried session limit file (sent_frames cs)
    sent cs h =
        let all = from_place 0 cs h in
        record { whole = all.0; turns = all.1 }

  -- A file of which a frame was sent is a datagram.
  pub sent_datagram : (cs : List Call) → 1 ≤ length file → SentInTurn file session largest 0 cs → datagram_fault file ≡ 0
  unfolding SentInTurn
  sent_datagram [] some h = absurd (omega arith)
  sent_datagram (c ∷ cs) some h = (wrote 0 c.lent c.size c.next c.after h.0).able.whole

  -- ---- every datagram can be sent so, with one output of 252 bytes or more lent to every call
  module _ (out : List ℕ) (good-file : bad_file file ≡ false) (good-largest : bad_largest largest ≡ false) (datagram : datagram_fault file ≡ 0) (room : 252 ≤ length out) where
    call : (place : ℕ) → place < length file
        → Sends file session largest place out (Ok (sent_as (length (sent_bytes file session largest place)) (next_place file largest place))) (over out (sent_bytes file session largest place))
    call place inside =
        let bs = sent_bytes file session largest place in
        let within : past_end file place ≡ false = lt-leb (length file) place inside in
        let g = sendable file largest place good-file good-largest datagram within in
        let n = length_part file largest place g in
        let enough : no_room file largest place (length out) ≡ false =
        le-ltb (length out) (length (part_at file largest place) + 12) (omega (arith, n.1, g.most)) in
        let z = first_none (send_rules file largest place (length out)) (sends_none file largest place (length out) good-file good-largest datagram within enough) in
        record {
          answer = sym (judged_none (sent_as (length bs) (next_place file largest place)) _ z);
          output = ap (λ (k : ℕ). write_output k bs out) (sym z);
        }

    -- at the end no call, before it one and those that go on from its answer
    calls_at : (place : ℕ) → place ≤ length file
        → (place < length file → (cs : List Call) × SentInTurn file session largest (next_place file largest place) cs)
        → (b : Bool) → eqb place (length file) ≡ b → (cs : List Call) × SentInTurn file session largest place cs
    unfolding SentInTurn
    calls_at place h more true e = ([], eqb-true place (length file) e)
    calls_at place h more false e =
        let apart = eqb-false place (length file) e in
        let inside : place < length file = omega (arith, apart) in
        let bs = sent_bytes file session largest place in
        let rest = more inside in
        (record { lent = out; after = over out bs; size = length bs; next = next_place file largest place } ∷ rest.0, (call place inside, rest.1))

    calls_from : (n place : ℕ) → place ≤ length file → length file - place ≤ n → (cs : List Call) × SentInTurn file session largest place cs
    unfolding SentInTurn
    calls_from zero place h few = ([], omega arith)
    calls_from (suc n) place h few =
        calls_at place h
        (λ inside.
        let g = sendable file largest place good-file good-largest datagram (lt-leb (length file) place inside) in
        let k = length_part file largest place g in
        calls_from n (next_place file largest place) k.2 (omega (arith, k.0)))
        (eqb place (length file)) refl

    pub sends_whole : (cs : List Call) × SentInTurn file session largest 0 cs
    sends_whole = calls_from (length file) 0 (omega arith) (omega arith)
