-- What a line is answered with, as the code judges it: the end, a refusal, a record.
-- Assumes nothing.
use mathlib.Core.Path.{◌≡◌, sym, ap, ap₂, ◌∙◌}
use mathlib.Core.List.{List}
use Prim.Native.Nat.{ℕ, zero, suc, ◌≤◌, ◌<◌}
use lib.Dec.{leb}
use lib.ListN.{length}
use borrow.Author.Tests.{le-leb, lt-leb}
use Rattle.std.specs.Prelude.{Result, Ok, Err, Some, None}
use Rattle.wire.specs.Answer.{answered, refuse}
use Rattle.wire.specs.Numbered.{refusal}
use Rattle.wire.specs.declared.refusals.Refusal.{Refusal}
use Rattle.sm160_text.specs.declared.LineRead.{LineRead}
use Rattle.sm160_text.specs.declared.LineReader.{LineReader}
use Rattle.sm160_text.specs.declared.Position.{Position}
use Rattle.sm160_text.specs.Position.{position}
use Rattle.sm160_text.specs.Grammar.{Optional, Attribute, line_at}
use Rattle.sm160_text.specs.Line.{Seen, Record, End, Refused, judged, read_line, in_file}
use Rattle.sm160_text.specs.Walk.{Walks, line}
use Rattle.sm160_text.proofs.Places.{cond_true, cond_false}
use Rattle.sm160_text.proofs.Walking.{none_refused, is_given}

module _ {A : Type 0} (made : List Optional → A) (form : List Attribute) where
  pub reads_end : (s : List ℕ) (p : ℕ) → length s ≤ p → ◌≡◌ {A = LineRead A} (record { answer = Ok None; next = p }) (in_file made (read_line form s p))
  unfolding read_line
  reads_end s p h = sym (ap (in_file made) (cond_true (leb (length s) p) (record { answer = End; next = p }) (judged s p (line_at form s p)) (le-leb (length s) p h)))

  module _ (was now : LineReader) (h : was.place < length was.bytes.now) where
    abbrev is : Seen
    is = (line was form).seen

    abbrev found : ℕ → LineRead A
    found n = in_file made (answered (λ m. record { answer = Refused m (position was.bytes.now is.place); next = was.place }) (record { answer = Record (line was form).texts; next = is.place }) n)

    as_judged : found is.number ≡ in_file made (read_line form was.bytes.now was.place)
    unfolding read_line
    as_judged =
        sym (ap (in_file made) (cond_false (leb (length was.bytes.now) was.place) (record { answer = End; next = was.place }) (judged was.bytes.now was.place (line_at form was.bytes.now was.place)) (lt-leb (length was.bytes.now) was.place h)))

    pub reads_record : (x : A) → Walks was (made (line was form).texts) is (Ok x) now
        → ◌≡◌ {A = LineRead A} (record { answer = Ok (Some x); next = now.place }) (in_file made (read_line form was.bytes.now was.place))
    reads_record x w =
        ap₂ (λ (y : A) (m : LineReader). record { answer = Ok (Some y); next = m.place }) (sym (is_given _ was is x now w)) w.moves
        ∙ ap found (sym (none_refused _ was is x now w))
        ∙ as_judged

    pub reads_refused : (e : Refusal) (at : Position) → Walks was (made (line was form).texts) is (Err e) now → at ≡ position was.bytes.now now.place
        → ◌≡◌ {A = LineRead A} (record { answer = Err (record { refusal = e; at = at }); next = was.place }) (in_file made (read_line form was.bytes.now was.place))
    reads_refused e at w ea = go is.number w.answers ∙ as_judged
      where
        there : at ≡ position was.bytes.now is.place
        there = ea ∙ ap (λ (m : LineReader). position was.bytes.now m.place) w.moves

        go : (n : ℕ) → ◌≡◌ {A = Result A Refusal} (Err e) (answered refuse (Ok (made (line was form).texts)) n) → ◌≡◌ {A = LineRead A} (record { answer = Err (record { refusal = e; at = at }); next = was.place }) (found n)
        go zero q = absurd (cc)
        go (suc n) q = let same : e ≡ refusal (suc n) = cc in ap₂ (λ (f : Refusal) (a : Position). record { answer = Err (record { refusal = f; at = a }); next = was.place }) same there
