-- Options that end in a text: what was written, and what was read; `head` is what stands before the text's length, of `at` bytes.
-- Assumes nothing.
use mathlib.Core.Path.{◌≡◌, refl, sym, ap, ap₂, ◌∙◌}
use mathlib.Core.Bool.{false, not}
use mathlib.Core.List.{List, [], ◌∷◌, ◌++◌, append_assoc}
use Prim.Native.Nat.{ℕ, ◌+◌, ◌-◌, ◌^◌, ◌<◌, ◌≤◌}
use native.Mathlib.Omega.{arith}
use lib.Dec.{eqb}
use lib.ListN.{length, take, drop, get_or, length-append, length-drop, take-append-drop}
use lib.Seq.{take_at, drop_at, drop-drop, take_all, length-take-le, get_or-append-add}
use borrow.Author.Tests.{eq-eqb, eqb-true, not-false}
use Rattle.wire.specs.Each.{Bytes}
use Rattle.wire.specs.Numbers.{le, field}
use Rattle.wire.proofs.Bools.{or_neither, neither_or}
use Rattle.wire.proofs.Each.{each_append}
use Rattle.wire.proofs.Fields.{length_field, field_bytes, field_append, field_take, number_at, number_again}
use Rattle.wire.proofs.Numbers.{length_le, of_le_lt, le_bytes}
use Rattle.sm160_read_file.specs.Layout.{name_at, message_at, text_bytes, request_options, reply_options, offset_of, size_of, status_of, text_length_of, text_of}
use Rattle.sm160_read_file.specs.Reading.{bad_text}

abbrev B : ℕ → Type 0
B b = b < 256

length_text : (text : List ℕ) → length (text_bytes text) ≡ length text + 3
unfolding text_bytes
length_text text = simp (length-append, length_le) (omega arith)

text_bytes_lem : (text : List ℕ) → Bytes text → Bytes (text_bytes text)
unfolding text_bytes
text_bytes_lem text h = each_append B (le 2 (length text)) (text ++ (0 ∷ [])) (le_bytes 2 (length text)) (each_append B text (0 ∷ []) h (omega arith, tt))

-- ---- what was written
module _ (head text : List ℕ) (at : ℕ) (e : length head ≡ at) (small : length text < 65536) where
  abbrev O : List ℕ
  O = head ++ text_bytes text

  length_options : length O ≡ at + 3 + length text
  length_options = length-append head (text_bytes text) ∙ omega (arith, length_text text)

  made_length : text_length_of at O ≡ length text
  unfolding text_bytes
  made_length = number_at head (text ++ (0 ∷ [])) at 2 (length text) e small

  -- cut behind the text's length, and before the closing zero
  before_text : List ℕ
  before_text = head ++ le 2 (length text)

  whole : O ≡ before_text ++ (text ++ (0 ∷ []))
  unfolding text_bytes before_text
  whole = sym (append_assoc head (le 2 (length text)) (text ++ (0 ∷ [])))

  length_before : length before_text ≡ at + 2
  unfolding before_text
  length_before = length-append head (le 2 (length text)) ∙ ap₂ (λ (x y : ℕ). x + y) e (length_le 2 (length text))

  made_text : text_of at O ≡ text
  made_text =
      ap₂ (λ (n : ℕ) (l : List ℕ). take n l) made_length (ap (drop (at + 2)) whole ∙ drop_at before_text (text ++ (0 ∷ [])) (at + 2) length_before)
      ∙ take_at text (0 ∷ []) (length text) refl

  closing : get_or O (length O - 1) 0 ≡ 0
  closing =
      let zero_at : length O - 1 ≡ length (before_text ++ text) + 0 =
      omega (arith, length_options, length-append before_text text, length_before) in
      ap₂ (λ (l : List ℕ) (k : ℕ). get_or l k 0) (whole ∙ sym (append_assoc before_text text (0 ∷ []))) zero_at
      ∙ get_or-append-add (before_text ++ text) (0 ∷ []) 0 0

  pub made_good : bad_text at O ≡ false
  made_good =
      neither_or (not (eqb (at + 3 + text_length_of at O) (length O))) (not (eqb (get_or O (length O - 1) 0) 0))
      (ap not (eq-eqb (at + 3 + text_length_of at O) (length O) (ap (λ (n : ℕ). at + 3 + n) made_length ∙ sym length_options)))
      (ap not (eq-eqb (get_or O (length O - 1) 0) 0 closing))

-- ---- what was read
module _ (o : List ℕ) (at : ℕ) (bytes : Bytes o) (good : bad_text at o ≡ false) where
  abbrev L : ℕ
  L = text_length_of at o

  abbrev T : List ℕ
  T = text_of at o

  both : (not (eqb (at + 3 + L) (length o)) ≡ false) × (not (eqb (get_or o (length o - 1) 0) 0) ≡ false)
  both = or_neither (not (eqb (at + 3 + L) (length o))) (not (eqb (get_or o (length o - 1) 0) 0)) good

  pub filled : at + 3 + L ≡ length o
  filled = eqb-true (at + 3 + L) (length o) (not-false (eqb (at + 3 + L) (length o)) both.0)

  last : get_or o (length o - 1) 0 ≡ 0
  last = eqb-true (get_or o (length o - 1) 0) 0 (not-false (eqb (get_or o (length o - 1) 0) 0) both.1)

  text_length : length T ≡ L
  text_length = length-take-le L (drop (at + 2) o) (omega (arith, filled, length-drop (at + 2) o))

  -- two bytes say it
  pub text_small : length T ≤ 65535
  text_small =
      let k : length (field o at 2) ≡ 2 = length_field o at 2 in
      let below : L < 256 ^ 2 = rw k at (of_le_lt (field o at 2) (field_bytes o at 2 bytes)) in
      omega (arith, text_length)

  -- its closing zero is what stands last
  one_more : drop L (drop (at + 2) o) ≡ 0 ∷ []
  unfolding field
  one_more =
      let here : at + 2 + L ≡ length o - 1 = omega (arith, filled) in
      let one : field o (at + 2 + L) 1 ≡ take 1 (drop (at + 2 + L) o) = field_take o (at + 2 + L) 1 (omega (arith, filled)) in
      drop-drop L (at + 2) o
      ∙ sym (take_all 1 (drop (at + 2 + L) o) (omega (arith, filled, length-drop (at + 2 + L) o)))
      ∙ sym one
      ∙ ap (λ (k : ℕ). get_or o k 0 ∷ []) here
      ∙ ap (λ (b : ℕ). b ∷ []) last

  text_again : take at o ++ text_bytes T ≡ o
  unfolding text_bytes
  text_again =
      let front : field o at 2 ≡ take 2 (drop at o) = field_take o at 2 (omega (arith, filled)) in
      let numbers : le 2 (length T) ≡ take 2 (drop at o) = ap (le 2) text_length ∙ number_again o at 2 bytes ∙ front in
      let behind : T ++ (0 ∷ []) ≡ drop (at + 2) o = ap (λ (l : List ℕ). T ++ l) (sym one_more) ∙ take-append-drop L (drop (at + 2) o) in
      let both-again : take 2 (drop at o) ++ drop (at + 2) o ≡ drop at o =
      ap (λ (l : List ℕ). take 2 (drop at o) ++ l) (sym (drop-drop 2 at o)) ∙ take-append-drop 2 (drop at o) in
      ap₂ (λ (x y : List ℕ). take at o ++ (x ++ y)) numbers behind
      ∙ ap (λ (l : List ℕ). take at o ++ l) both-again
      ∙ take-append-drop at o

-- ---- the options of a request, and of a reply
length_16 : (offset size : ℕ) → length (le 8 offset ++ le 8 size) ≡ 16
length_16 offset size = simp (length-append, length_le)

request_head : (offset size : ℕ) (name : List ℕ) → request_options offset size name ≡ (le 8 offset ++ le 8 size) ++ text_bytes name
unfolding request_options
request_head offset size name = sym (append_assoc (le 8 offset) (le 8 size) (text_bytes name))

pub length_request : (offset size : ℕ) (name : List ℕ) → length (request_options offset size name) ≡ length name + 19
unfolding request_options
length_request offset size name = simp (length-append, length_le) (omega (arith, length_text name))

pub length_reply : (status : ℕ) (message : List ℕ) → length (reply_options status message) ≡ length message + 7
unfolding reply_options
length_reply status message = simp (length-append, length_le) (omega (arith, length_text message))

module _ (offset size : ℕ) (name : List ℕ) where
  pub made_offset : offset < 256 ^ 8 → offset_of (request_options offset size name) ≡ offset
  unfolding request_options
  made_offset h = number_at [] (le 8 size ++ text_bytes name) 0 8 offset refl h

  pub made_size : size < 256 ^ 8 → size_of (request_options offset size name) ≡ size
  unfolding request_options
  made_size h = number_at (le 8 offset) (text_bytes name) 8 8 size (length_le 8 offset) h

  pub made_name : length name < 65536 → text_of name_at (request_options offset size name) ≡ name
  made_name small = ap (text_of name_at) (request_head offset size name) ∙ made_text (le 8 offset ++ le 8 size) name name_at (length_16 offset size) small

  pub good_name : length name < 65536 → bad_text name_at (request_options offset size name) ≡ false
  good_name small = ap (bad_text name_at) (request_head offset size name) ∙ made_good (le 8 offset ++ le 8 size) name name_at (length_16 offset size) small

  pub request_bytes_lem : Bytes name → Bytes (request_options offset size name)
  unfolding request_options
  request_bytes_lem h =
      each_append B (le 8 offset) (le 8 size ++ text_bytes name) (le_bytes 8 offset) (each_append B (le 8 size) (text_bytes name) (le_bytes 8 size) (text_bytes_lem name h))

module _ (status : ℕ) (message : List ℕ) where
  pub made_status : status < 256 ^ 4 → status_of (reply_options status message) ≡ status
  unfolding reply_options
  made_status h = number_at [] (text_bytes message) 0 4 status refl h

  pub made_message : length message < 65536 → text_of message_at (reply_options status message) ≡ message
  unfolding reply_options
  made_message small = made_text (le 4 status) message message_at (length_le 4 status) small

  pub good_message : length message < 65536 → bad_text message_at (reply_options status message) ≡ false
  unfolding reply_options
  good_message small = made_good (le 4 status) message message_at (length_le 4 status) small

  pub reply_bytes_lem : Bytes message → Bytes (reply_options status message)
  unfolding reply_options
  reply_bytes_lem h = each_append B (le 4 status) (text_bytes message) (le_bytes 4 status) (text_bytes_lem message h)

module _ (o : List ℕ) (bytes : Bytes o) where
  pub request_again : bad_text name_at o ≡ false → request_options (offset_of o) (size_of o) (text_of name_at o) ≡ o
  unfolding request_options
  request_again good =
      let sixteen : field o 0 8 ++ field o 8 8 ≡ take 16 o = sym (field_append o 0 8 8) ∙ field_take o 0 16 (omega (arith, filled o name_at bytes good)) in
      ap₂ (λ (x y : List ℕ). x ++ (y ++ text_bytes (text_of name_at o))) (number_again o 0 8 bytes) (number_again o 8 8 bytes)
      ∙ sym (append_assoc (field o 0 8) (field o 8 8) (text_bytes (text_of name_at o)))
      ∙ ap (λ (l : List ℕ). l ++ text_bytes (text_of name_at o)) sixteen
      ∙ text_again o name_at bytes good

  pub reply_again : bad_text message_at o ≡ false → reply_options (status_of o) (text_of message_at o) ≡ o
  unfolding reply_options
  reply_again good =
      ap (λ (l : List ℕ). l ++ text_bytes (text_of message_at o)) (number_again o 0 4 bytes ∙ field_take o 0 4 (omega (arith, filled o message_at bytes good)))
      ∙ text_again o message_at bytes good
