-- What is read at a place of a file: a record, the end, or a refusal with line and column.
-- Assumes nothing.
use Rattle.std.specs.Prelude.{ℕ, Bool, cond, List, [], ◌∷◌, leb, length, get_or, Option, Some, None, Result, Ok, Err}
use Rattle.wire.specs.Answer.{answered}
use Rattle.wire.specs.Numbered.{refusal}
use Rattle.wire.specs.Refusal.{Rule, first}
use Rattle.wire.specs.InTurn.{in_turn, first_faulty}
use Rattle.wire.specs.Told.{Told, accepted, refused_with}
use Rattle.sm160_text.specs.Position.{position}
use Rattle.sm160_text.specs.Grammar.{Optional, Attribute, archive, device_list, Next, absent, line_at, past_all, placed, place_rules, texts_in}
use Rattle.sm160_text.specs.declared.Span.{Span}
use Rattle.sm160_text.specs.declared.Position.{Position}
use Rattle.sm160_text.specs.declared.ArchiveRecord.{ArchiveRecord}
use Rattle.sm160_text.specs.declared.DeviceRecord.{DeviceRecord}
use Rattle.sm160_text.specs.declared.Fault.{Fault}
use Rattle.sm160_text.specs.declared.LineRead.{LineRead}

-- ---- "the first place in the line decides"

abbrev pub rules_of : List ℕ → ℕ → List Next → List Rule
rules_of s p xs = in_turn (place_rules s) (placed s p xs)

-- the place of the first that does not stand, and the place after all of them where each stands
abbrev pub fault_place : List ℕ → ℕ → List Next → ℕ
fault_place s p xs = (first_faulty (place_rules s) (record { place = past_all s p xs; what = absent }) (placed s p xs)).place

-- how far a line is read: no refusal (0) and the place after it, or the refusal and its place
pub record Seen : Type 0 where
  pub number : ℕ
  pub place : ℕ

abbrev pub seen : List ℕ → ℕ → List Next → Seen
seen s p xs = record { number = first (rules_of s p xs); place = fault_place s p xs }

-- ---- a line of either file

-- what is read: a record by its texts
pub data Answer : Type 0 where
  Record : List Optional → Answer
  End : Answer
  Refused : ℕ → Position → Answer

-- and the place of the next line: "A line reader .. hands out one record after another"; it is the same place where there is no record
pub record Read : Type 0 where
  pub answer : Answer
  pub next : ℕ

-- no line begins at the file's end, or beyond it
abbrev pub ended : List ℕ → ℕ → Bool
ended s p = leb (length s) p

abbrev pub judged : List ℕ → ℕ → List Next → Read
judged s p xs =
    answered (λ n. record { answer = Refused n (position s (seen s p xs).place); next = p })
    (record { answer = Record (texts_in s p xs); next = (seen s p xs).place }) (seen s p xs).number

unfoldable pub read_line : List Attribute → List ℕ → ℕ → Read
read_line form s p = cond (ended s p) (record { answer = End; next = p }) (judged s p (line_at form s p))

-- a record: 1, the next place; the end: 0 and the place; a refusal: its number, with line and column
abbrev pub told_as : Answer → ℕ → Told
told_as (Record texts) next = accepted (1 ∷ next ∷ [])
told_as End next = accepted (0 ∷ next ∷ [])
told_as (Refused n at) next = refused_with n (at.line ∷ at.column ∷ [])

abbrev pub told_read : Read → Told
told_read r = told_as r.answer r.next

-- ---- in the structs of the two files

abbrev pub text_no : List Optional → ℕ → Optional
text_no texts i = get_or texts i None

-- a needed attribute is never absent where a line is read
abbrev pub span_of : Optional → Span
span_of (Some span) = span
span_of None = record { start = 0; end = 0 }

abbrev pub archive_record : List Optional → ArchiveRecord
archive_record texts =
    record {
      r = text_no texts 0;
      s = span_of (text_no texts 1);
      n = span_of (text_no texts 2);
      v = span_of (text_no texts 3);
      e = span_of (text_no texts 4);
      c = text_no texts 5;
      t = text_no texts 6;
    }

abbrev pub device_record : List Optional → DeviceRecord
device_record texts = record { d = span_of (text_no texts 0); k = span_of (text_no texts 1); s = span_of (text_no texts 2) }

abbrev pub answer_of : {A : Type 0} → (List Optional → A) → Answer → Result (Option A) Fault
answer_of made (Record texts) = Ok (Some (made texts))
answer_of made End = Ok None
answer_of made (Refused n at) = Err (record { refusal = refusal n; at = at })

abbrev pub in_file : {A : Type 0} → (List Optional → A) → Read → LineRead A
in_file made r = record { answer = answer_of made r.answer; next = r.next }

abbrev pub in_archive : Read → LineRead ArchiveRecord
in_archive r = in_file archive_record r

abbrev pub in_devices : Read → LineRead DeviceRecord
in_devices r = in_file device_record r

-- "An SM160 archive file has one record a line"
unfoldable pub read_record : List ℕ → ℕ → LineRead ArchiveRecord
read_record s p = in_archive (read_line archive s p)

unfoldable pub read_device : List ℕ → ℕ → LineRead DeviceRecord
read_device s p = in_devices (read_line device_list s p)
