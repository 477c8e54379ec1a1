-- The fields of a datagram that was written, and the datagram of the fields that were read.
-- Assumes nothing.
use mathlib.Core.Path.{◌≡◌, refl, sym, ap, ap₂, ◌∙◌}
use mathlib.Core.Bool.{not}
use mathlib.Core.List.{List, [], ◌∷◌, ◌++◌, append_assoc, append-nil}
use Prim.Native.Nat.{ℕ, ◌+◌, ◌-◌, ◌^◌, ◌<◌, ◌≤◌}
use native.Mathlib.Omega.{arith}
use lib.Dec.{eqb, ltb}
use lib.ListN.{length, take, drop, length-append, length-drop, take-append-drop}
use lib.Seq.{take_at, drop_at, drop-drop, take_all, length-take-le, take-add}
use borrow.Author.Tests.{le-ltb, ltb-false, eq-eqb, eqb-true, not-false}
use Rattle.checksum.specs.Crc32.{crc32}
use Rattle.checksum.proofs.Crc32.{crc32_lt}
use Rattle.wire.specs.Each.{Bytes}
use Rattle.wire.specs.Numbers.{le, digits, of_le, field}
use Rattle.wire.proofs.Bools.{or_neither, neither_or}
use Rattle.wire.proofs.Each.{each_append, each_take, each_drop}
use Rattle.wire.proofs.Rules.{first_none, none_first}
use Rattle.wire.proofs.Numbers.{length_le, of_le_le, of_le_lt, le_bytes}
use Rattle.wire.proofs.Fields.{length_field, field_bytes, field_append, field_take, number_at, number_again}
use Rattle.sm160_datagram.specs.Layout.{opening_bytes, covered_bytes, closing_bytes, datagram_bytes, type_of, flag_of, options_length_of, data_length_of, crc_of, covered_of, crc_due, options_of, data_of}
use Rattle.sm160_datagram.specs.Reading.{datagram_rules, datagram_fault}

abbrev B : ℕ → Type 0
B b = b < 256

pub length_closing : (n : ℕ) (covered : List ℕ) → length (closing_bytes n covered) ≡ 12
unfolding closing_bytes
length_closing n covered = simp (length-append, length_le)

-- ---- what was written
module _ (type : ℕ) (o b : List ℕ) where
  abbrev C : List ℕ
  C = covered_bytes type o b

  abbrev D : List ℕ
  D = datagram_bytes type o b

  pub length_covered : length C ≡ length o + length b + 6
  unfolding covered_bytes opening_bytes
  length_covered = simp (length-append, length_le) (omega arith)

  pub length_datagram : length D ≡ length o + length b + 18
  unfolding datagram_bytes
  length_datagram = length-append C (closing_bytes (length b) C) ∙ omega (arith, length_covered, length_closing (length b) C)

  before_length : length C ≡ length D - 12
  before_length = omega (arith, length_covered, length_datagram)

  pub made_type : type_of D ≡ type
  unfolding datagram_bytes covered_bytes opening_bytes
  made_type = refl

  made_flag : flag_of D ≡ 0
  unfolding datagram_bytes covered_bytes opening_bytes
  made_flag = refl

  module _ (small : length o < 4294967296) where
    made_options_length : options_length_of D ≡ length o
    unfolding datagram_bytes covered_bytes opening_bytes field le digits
    made_options_length = of_le_le 4 (length o) small

    pub made_options : options_of D ≡ o
    unfolding datagram_bytes covered_bytes opening_bytes le digits
    made_options =
        ap (λ (k : ℕ). take k (drop 6 D)) made_options_length
        ∙ ap (take (length o)) (append_assoc o b (closing_bytes (length b) C))
        ∙ take_at o (b ++ closing_bytes (length b) C) (length o) refl

    made_covered : covered_of D ≡ C
    unfolding datagram_bytes
    made_covered = take_at C (closing_bytes (length b) C) (length D - 12) before_length

    after_six : drop (length o) (drop 6 C) ≡ b
    unfolding covered_bytes opening_bytes le digits
    after_six = drop_at o b (length o) refl

    pub made_data : data_of D ≡ b
    made_data =
        ap₂ (λ (k : ℕ) (l : List ℕ). drop (6 + k) l) made_options_length made_covered
        ∙ sym (drop-drop (length o) 6 C)
        ∙ after_six

    made_data_length : length b < 256 ^ 8 → data_length_of D ≡ length b
    unfolding datagram_bytes closing_bytes
    made_data_length h = number_at C (le 4 (crc32 C)) (length D - 12) 8 (length b) before_length h

    made_due : crc_due D ≡ crc32 C
    unfolding crc_due
    made_due = ap crc32 made_covered

    made_crc : crc32 C < 4294967296 → crc_of D ≡ crc32 C
    unfolding datagram_bytes closing_bytes
    made_crc h =
        let front : length (C ++ le 8 (length b)) ≡ length D - 4 =
        length-append C (le 8 (length b)) ∙ omega (arith, length_covered, length_datagram, length_le 8 (length b)) in
        let whole : D ≡ (C ++ le 8 (length b)) ++ (le 4 (crc32 C) ++ []) =
        sym (append_assoc C (le 8 (length b)) (le 4 (crc32 C))) ∙ ap (λ (l : List ℕ). (C ++ le 8 (length b)) ++ l) (sym (append-nil (le 4 (crc32 C)))) in
        ap (λ (l : List ℕ). of_le (field l (length D - 4) 4)) whole
        ∙ number_at (C ++ le 8 (length b)) [] (length D - 4) 4 (crc32 C) front h

    covered_bytes_lem : type < 256 → Bytes o → Bytes b → Bytes C
    unfolding covered_bytes opening_bytes
    covered_bytes_lem ht ho hb = (ht, (omega arith, each_append B (le 4 (length o)) (o ++ b) (le_bytes 4 (length o)) (each_append B o b ho hb)))

    -- a datagram made of good fields is good
    pub made_good : type < 256 → Bytes o → Bytes b → length b < 256 ^ 8 → datagram_fault D ≡ 0
    unfolding datagram_fault
    made_good ht ho hb large =
        let lengths : 18 + options_length_of D + data_length_of D ≡ length D =
        ap₂ (λ (x y : ℕ). 18 + x + y) made_options_length (made_data_length large) ∙ omega (arith, length_datagram) in
        let fits : crc32 C < 4294967296 = crc32_lt C (covered_bytes_lem ht ho hb) in
        first_none (datagram_rules D) (
          neither_or (ltb (length D) 18) (not (eqb (18 + options_length_of D + data_length_of D) (length D)))
              (le-ltb (length D) 18 (omega (arith, length_datagram)))
              (ap not (eq-eqb (18 + options_length_of D + data_length_of D) (length D) lengths)),
          (
            ap not (eq-eqb (crc_of D) (crc_due D) (made_crc fits ∙ sym made_due)),
            (ap not (eq-eqb (flag_of D) 0 made_flag), tt),
          ),
        )

-- ---- what was read
pub options_bytes : (d : List ℕ) → Bytes d → Bytes (options_of d)
options_bytes d bytes = each_take B (options_length_of d) (drop 6 d) (each_drop B 6 d bytes)

pub datagram_length : (d : List ℕ) → datagram_fault d ≡ 0 → 18 ≤ length d
unfolding datagram_fault
datagram_length d good = ltb-false (length d) 18 (or_neither (ltb (length d) 18) (not (eqb (18 + options_length_of d + data_length_of d) (length d))) (none_first (datagram_rules d) tt good).0).0

module _ (d : List ℕ) (good : datagram_fault d ≡ 0) where
  abbrev n : ℕ
  n = length d

  abbrev O : ℕ
  O = options_length_of d

  abbrev L : ℕ
  L = data_length_of d

  abbrev K : List ℕ
  K = covered_of d

  abbrev A : List ℕ
  A = take 6 d

  abbrev Q : List ℕ
  Q = take L (drop O (drop 6 d))

  sum : 18 + O + L ≡ n
  unfolding datagram_fault
  sum =
      let h = none_first (datagram_rules d) tt good in
      eqb-true (18 + O + L) n (not-false (eqb (18 + O + L) n) (or_neither (ltb n 18) (not (eqb (18 + O + L) n)) h.0).1)

  same : crc_of d ≡ crc_due d
  unfolding datagram_fault
  same =
      let h = none_first (datagram_rules d) tt good in
      eqb-true (crc_of d) (crc_due d) (not-false (eqb (crc_of d) (crc_due d)) h.1.0)

  not_compressed : flag_of d ≡ 0
  unfolding datagram_fault
  not_compressed =
      let h = none_first (datagram_rules d) tt good in
      eqb-true (flag_of d) 0 (not-false (eqb (flag_of d) 0) h.1.1.0)

  -- what the CRC-32 covers: six bytes, the options, the data
  split : K ≡ A ++ (options_of d ++ Q)
  split =
      let e : n - 12 ≡ 6 + (O + L) = omega (arith, sum) in
      ap (λ (k : ℕ). take k d) e ∙ take-add 6 (O + L) d ∙ ap (λ (l : List ℕ). A ++ l) (take-add O L (drop 6 d))

  pub length_options : length (options_of d) ≡ O
  length_options = length-take-le O (drop 6 d) (omega (arith, sum, length-drop 6 d))

  length_six : length A ≡ 6
  length_six = length-take-le 6 d (omega (arith, sum))

  data_is : data_of d ≡ Q
  data_is =
      let k : length (A ++ options_of d) ≡ 6 + O = length-append A (options_of d) ∙ ap₂ (λ (x y : ℕ). x + y) length_six length_options in
      ap (drop (6 + O)) (split ∙ sym (append_assoc A (options_of d) Q)) ∙ drop_at (A ++ options_of d) Q (6 + O) k

  pub length_data : length (data_of d) ≡ L
  length_data =
      ap length data_is ∙ length-take-le L (drop O (drop 6 d)) (omega (arith, sum, length-drop O (drop 6 d), length-drop 6 d))

  six : type_of d ∷ flag_of d ∷ field d 2 4 ≡ A
  unfolding field
  six = field_take d 0 6 (omega (arith, sum))

  last_twelve : field d (n - 12) 8 ++ field d (n - 4) 4 ≡ drop (n - 12) d
  last_twelve =
      let e : n - 12 + 8 ≡ n - 4 = omega (arith, sum) in
      ap (λ (k : ℕ). field d (n - 12) 8 ++ field d k 4) (sym e)
      ∙ sym (field_append d (n - 12) 8 4)
      ∙ field_take d (n - 12) 12 (omega (arith, sum))
      ∙ take_all 12 (drop (n - 12) d) (omega (arith, sum, length-drop (n - 12) d))

  pub whole_length : length (options_of d) + length (data_of d) + 18 ≡ n
  whole_length = omega (arith, sum, length_options, length_data)

  module _ (bytes : Bytes d) where
    -- four bytes say it
    pub options_small : length (options_of d) ≤ 4294967295
    options_small =
        let k : length (field d 2 4) ≡ 4 = length_field d 2 4 in
        let below : O < 256 ^ 4 = rw k at (of_le_lt (field d 2 4) (field_bytes d 2 4 bytes)) in
        omega (arith, length_options)

    opening : opening_bytes (type_of d) (length (options_of d)) ≡ A
    unfolding opening_bytes
    opening =
        ap₂ (λ (x y : ℕ). type_of d ∷ x ∷ le 4 y) (sym not_compressed) length_options
        ∙ ap (λ (l : List ℕ). type_of d ∷ flag_of d ∷ l) (number_again d 2 4 bytes)
        ∙ six

    covered : covered_bytes (type_of d) (options_of d) (data_of d) ≡ K
    unfolding covered_bytes
    covered = ap₂ (λ (x y : List ℕ). x ++ (options_of d ++ y)) opening data_is ∙ sym split

    closing : closing_bytes (length (data_of d)) K ≡ drop (n - 12) d
    unfolding closing_bytes crc_due
    closing =
        ap₂ (λ (x y : ℕ). le 8 x ++ le 4 y) length_data (sym same)
        ∙ ap₂ (λ (x y : List ℕ). x ++ y) (number_again d (n - 12) 8 bytes) (number_again d (n - 4) 4 bytes)
        ∙ last_twelve

    -- where no rule of 37 to 39 holds, the bytes are those of the fields
    pub read_bytes : datagram_bytes (type_of d) (options_of d) (data_of d) ≡ d
    unfolding datagram_bytes
    read_bytes =
        ap (λ (l : List ℕ). l ++ closing_bytes (length (data_of d)) l) covered
        ∙ ap (λ (l : List ℕ). K ++ l) closing
        ∙ take-append-drop (n - 12) d
