-- ASCII is lawful, and so keeps the promises: here are its marks, its characters and its LRC, and what its reader answers.
-- Assumes nothing.
use mathlib.Core.Path.{◌≡◌, refl, sym, ap, ap₂, ◌∙◌, subst}
use mathlib.Core.Bool.{false, not}
use mathlib.Core.List.{List, [], ◌∷◌, ◌++◌}
use Prim.Native.Nat.{ℕ, suc, ◌+◌, ◌*◌, ◌-◌, ◌%◌, ◌<◌, ◌≤◌}
use native.Mathlib.Omega.{arith}
use lib.Dec.{eqb}
use lib.ListN.{length, get_or, take, drop, length-append, take-append-drop, drop_of_length-le}
use lib.Seq.{take-append_seam, take_at, drop_at, drop-cons, drop-drop}
use borrow.Author.Tests.{le-ltb, eq-eqb, eqb-true, not-false, ltb-false}
use Rattle.checksum.specs.Sums.{sum_from, lrc}
use Rattle.checksum.proofs.Sums.{lrc_lt, lrc_closes, lrc_only}
use Rattle.wire.specs.Each.{Bytes}
use Rattle.wire.specs.Numbers.{over}
use Rattle.wire.specs.Refusal.{Rule, ◌when◌, first, NoneHolds}
use Rattle.std.specs.Prelude.{Ok}
use Rattle.std.specs.Cmp.Lexicographic.{same_text}
use Rattle.wire.specs.Writes.{write_output}
use Rattle.wire.proofs.Answer.{judged_none, accepted_as}
use Rattle.wire.proofs.Bools.{or_neither, neither_or}
use Rattle.wire.proofs.Each.{get_d_each, each_append, each_drop, each_take}
use Rattle.wire.proofs.Rules.{first_none, none_first, none_both, none_append}
use Rattle.modbus.specs.Envelope.{Message, message, content_of, plain_of, bytes_of, said_by, no_room}
use Rattle.modbus.specs.Promise.{Fits, Carries, Finds, OneEnvelope, ReadsBack, WritesAgain}
use Rattle.modbus.proofs.Fields as fields
use Rattle.modbus.proofs.Lawful.{Lawful}
use Rattle.modbus.proofs.Promise.{same_message, one_envelope, reads_back, writes_again}
use Rattle.modbus_ascii.specs.Hex.{hex, of_hex, all_digits}
use Rattle.modbus_ascii.specs.Ascii.{ascii, colon, carriage_return, line_feed, inside, bad_marks, bad_characters, bad_lrc, ascii_rules, ascii_data, read_rules, found_ascii, read_ascii, ascii_output, AsciiAnswers}
use Rattle.modbus_ascii.specs.declared.Ascii.{Ascii}
use Rattle.modbus_ascii.proofs.Pairs.{length_hex, length_of_hex, of_hex_bytes, of_hex_hex, all_digits_hex, hex_of_hex}
use Rattle.modbus_ascii.proofs.Answers.{length_inside}

abbrev Ending : List ℕ
Ending = carriage_return ∷ line_feed ∷ []

-- ---- what is written
module _ (p : List ℕ) where
  abbrev L : List ℕ
  L = colon ∷ (hex p ++ Ending)

  line_length_lem : length L ≡ 3 + 2 * length p
  line_length_lem = simp (length-append, length_hex) (omega arith)

  inside_line : inside L ≡ hex p
  unfolding inside
  inside_line = take_at (hex p) Ending (length L - 3) (omega (arith, line_length_lem, length_hex p))

  marks_line : bad_marks L ≡ false
  marks_line =
      let at : length (colon ∷ hex p) ≡ length L - 2 = omega (arith, line_length_lem, length_hex p) in
      rw (drop_at (colon ∷ hex p) Ending (length L - 2) at) refl

  chars_line : Bytes p → bad_characters L ≡ false
  chars_line hp =
      let even : length (inside L) % 2 ≡ 0 = omega (arith, ap length inside_line, length_hex p) in
      neither_or _ _ (ap not (ap all_digits inside_line ∙ all_digits_hex p hp)) (ap not (eq-eqb (length (inside L) % 2) 0 even))

  plain_line : Bytes p → of_hex (inside L) ≡ p
  plain_line hp = ap of_hex inside_line ∙ of_hex_hex p hp

module _ (m : Message) (fit : Fits m) where
  abbrev P : List ℕ
  P = plain_of ascii m

  plain_bytes : Bytes P
  plain_bytes = each_append (λ b. b < 256) (content_of m) (lrc (content_of m) ∷ []) fit (lrc_lt (content_of m), tt)

  lrc_line : bad_lrc (bytes_of ascii m) ≡ false
  unfolding bytes_of
  lrc_line =
      ap not (eq-eqb (sum_from 0 (of_hex (inside (bytes_of ascii m)))) 0 (ap (sum_from 0) (plain_line P plain_bytes) ∙ lrc_closes (content_of m)))

-- ---- what is read
-- a list of three or more: its first, what stands between, and its last two
between : (s : List ℕ) → 3 ≤ length s → take 1 s ++ (inside s ++ drop (length s - 2) s) ≡ s
unfolding inside
between s h =
    let n = length s - 3 in
    let seam : 1 + n ≡ length s - 2 = omega arith in
    ap (λ (l : List ℕ). take 1 s ++ (take n (drop 1 s) ++ l)) (ap (λ (k : ℕ). drop k s) (sym seam) ∙ sym (drop-drop n 1 s))
    ∙ ap (λ (l : List ℕ). take 1 s ++ l) (take-append-drop n (drop 1 s))
    ∙ take-append-drop 1 s

module _ (s : List ℕ) (hs : Bytes s) (none : NoneHolds (ascii_rules s)) where
  abbrev Q : List ℕ
  Q = of_hex (inside s)

  nine : 9 ≤ length s
  nine = ltb-false (length s) 9 none.0

  inside_bytes : Bytes (inside s)
  unfolding inside
  inside_bytes = each_take (λ b. b < 256) (length s - 3) (drop 1 s) (each_drop (λ b. b < 256) 1 s hs)

  line_back : colon ∷ (hex Q ++ Ending) ≡ s
  line_back =
      let marks = or_neither _ _ none.1.1.0 in
      let start : colon ∷ [] ≡ take 1 s = same_text (colon ∷ []) (take 1 s) (sym (not-false _ marks.0)) in
      let ends : Ending ≡ drop (length s - 2) s = same_text Ending (drop (length s - 2) s) (sym (not-false _ marks.1)) in
      let chars = or_neither _ _ none.1.1.1.0 in
      let all = not-false (all_digits (inside s)) chars.0 in
      let even = eqb-true (length (inside s) % 2) 0 (not-false (eqb (length (inside s) % 2) 0) chars.1) in
      ap (λ (l : List ℕ). colon ∷ (l ++ Ending)) (hex_of_hex (inside s) inside_bytes all even)
      ∙ ap (λ (l : List ℕ). l ++ (inside s ++ Ending)) start
      ∙ ap (λ (l : List ℕ). take 1 s ++ (inside s ++ l)) ends
      ∙ between s (omega (arith, nine))

  least : 0 + 2 + 1 ≤ length Q
  least = omega (arith, nine, length_of_hex (inside s), length_inside s)

  tail_back : lrc (content_of (said_by ascii s)) ∷ [] ≡ drop (length Q - 1) Q
  tail_back =
      let k = length Q - 1 in
      let c = take k Q in
      let x = get_or Q k 0 in
      let closed : sum_from 0 Q ≡ 0 = eqb-true (sum_from 0 Q) 0 (not-false (eqb (sum_from 0 Q) 0) none.1.1.1.1.0) in
      let past : length Q ≤ suc k = omega arith in
      let within : k < length Q = omega (arith, least) in
      let last : drop k Q ≡ x ∷ [] = drop-cons Q k 0 within ∙ ap (λ (l : List ℕ). x ∷ l) (drop_of_length-le Q past) in
      let whole : c ++ (x ∷ []) ≡ Q = ap (λ (l : List ℕ). c ++ l) (sym last) ∙ take-append-drop k Q in
      let small : x < 256 = get_d_each (λ b. b < 256) (omega arith) Q (of_hex_bytes (inside s)) k in
      ap (λ (l : List ℕ). lrc l ∷ []) (fields.read_message 0 1 Q least)
      ∙ ap (λ (y : ℕ). y ∷ []) (lrc_only c x small (ap (sum_from 0) whole ∙ closed))
      ∙ sym last

ascii_lawful : Lawful ascii ascii_rules
unfolding bytes_of
ascii_lawful =
    record {
      head_length_lem = λ c. refl;
      tail_length = λ c. refl;
      line_length_lem = line_length_lem;
      size_up = λ n k h. omega arith;
      size_down = λ n k h. omega arith;
      rules_numbered = λ s. tt;
      limits = λ s none. (ltb-false (length s) 9 none.0, ltb-false 513 (length s) none.1.0);
      line_there = λ m fit. plain_line (plain_of ascii m) (plain_bytes m fit);
      faultless = λ m fit least most. (le-ltb (length (bytes_of ascii m)) 9 least, (le-ltb 513 (length (bytes_of ascii m)) most, (marks_line (plain_of ascii m), (chars_line (plain_of ascii m) (plain_bytes m fit), (lrc_line m fit, tt)))));
      line_bytes_lem = λ s hs. of_hex_bytes (inside s);
      line_back = line_back;
      tail_back = tail_back;
    }

-- ---- what the reader answers
abbrev room : List ℕ → List ℕ → List Rule
room s out = 16 when no_room (length (ascii_data s)) out ∷ []

ascii_answers : (s : List ℕ) (m : Message) → Carries ascii ascii_rules s m → AsciiAnswers s m
unfolding read_ascii ascii_output
ascii_answers s m c out fits =
    let size : length (ascii_data s) ≤ length out = subst (λ (x : Message). length x.«data» ≤ length out) (sym c.says) fits in
    let z = first_none (read_rules s out) (none_both (ascii_rules s) (room s out) c.accepted (le-ltb (length out) (length (ascii_data s)) size, tt)) in
    (judged_none _ _ z ∙ ap found_ascii c.says, ap (λ (n : ℕ). write_output n (ascii_data s) out) z ∙ ap (λ (x : Message). over out x.«data») c.says)

-- one call that finds a message is enough: the characters carry it, with the data that the output begins with
pub ascii_found : (s out : List ℕ) (x : Ascii) → read_ascii s out ≡ Ok x
    → Carries ascii ascii_rules s (message x.address x.function (take x.length (ascii_output s out)))
unfolding read_ascii ascii_output over
ascii_found s out x q =
    let ok = accepted_as (record { address = (said_by ascii s).address; function = (said_by ascii s).function; length = length (ascii_data s) }) (first (read_rules s out)) x q in
    let front : ascii_data s ≡ take x.length (ascii_output s out) =
    sym (ap₂ (λ (n : ℕ) (l : List ℕ). take n l) (sym (ap (λ (y : Ascii). y.length) ok.1)) (ap (λ (n : ℕ). write_output n (ascii_data s) out) ok.0)
    ∙ take-append_seam (ascii_data s) (drop (length (ascii_data s)) out)) in
    record {
      accepted = (none_append (ascii_rules s) (room s out) (none_first (read_rules s out) tt ok.0)).0;
      says = same_message (said_by ascii s) (message x.address x.function (take x.length (ascii_output s out))) (ap (λ (y : Ascii). y.address) ok.1) (ap (λ (y : Ascii). y.function) ok.1) front;
      begins = refl;
    }

ascii_carries : (s : List ℕ) (m : Message) → Bytes s → AsciiAnswers s m → Carries ascii ascii_rules s m
unfolding over
ascii_carries s m hs read =
    let d = m.«data» in
    let call = read d (omega arith) in
    let front : take (length d) (ascii_output s d) ≡ d = ap (take (length d)) call.1 ∙ take-append_seam d (drop (length d) d) in
    subst (Carries ascii ascii_rules s) (ap (message m.address m.function) front) (ascii_found s d (record { address = m.address; function = m.function; length = length d }) call.0)

-- ---- the promises
pub ascii_finds : Finds ascii ascii_rules AsciiAnswers
ascii_finds s m = (ascii_answers s m, ascii_carries s m)

pub ascii_one_envelope : OneEnvelope ascii ascii_rules
ascii_one_envelope = one_envelope ascii ascii_rules ascii_lawful

pub ascii_reads_back : ReadsBack ascii AsciiAnswers
ascii_reads_back = reads_back ascii ascii_rules ascii_lawful AsciiAnswers ascii_answers

pub ascii_writes_again : WritesAgain ascii AsciiAnswers
ascii_writes_again = writes_again ascii ascii_rules ascii_lawful AsciiAnswers ascii_carries
