-- The fields of a frame that was written, with anything after it, and the frame of the fields that were read.
-- Assumes nothing.
use mathlib.Core.Path.{◌≡◌, refl, sym, ap, ap₂, ◌∙◌}
use mathlib.Core.Bool.{false, not}
use mathlib.Core.List.{List, [], ◌∷◌, ◌++◌, append_assoc}
use Prim.Native.Nat.{ℕ, ◌+◌, ◌-◌, ◌^◌, ◌<◌, ◌≤◌}
use native.Mathlib.Omega.{arith}
use native.Mathlib.Nat.{zero-add}
use lib.Dec.{eqb, lit<}
use lib.ListN.{length, take, drop, length-append}
use lib.Seq.{take_at, drop_at}
use borrow.Author.Tests.{le-ltb, eq-eqb, eqb-true, not-false}
use Rattle.checksum.specs.Crc.{crc}
use Rattle.checksum.proofs.Laws.{crc_from_lt}
use Rattle.wire.specs.Each.{Bytes}
use Rattle.wire.specs.Numbers.{bcd, le, of_bcd, of_le, is_bcd, field, digits}
use Rattle.wire.proofs.Bools.{T_true, true_T}
use Rattle.wire.proofs.Each.{each_append, get_d_each}
use Rattle.wire.proofs.Numbers.{length_bcd, of_bcd_bcd, of_bcd_lt, bcd_of_bcd, bcd_is_bcd, bcd_bytes, le_bytes}
use Rattle.wire.proofs.Fields.{field_at, field_take, field_append, length_field, number_at, number_again}
use Rattle.pulsar_frame.specs.Layout.{frame_body, frame_bytes, len_of, address_of, function_of, payload_of, id_of, crc_of, covered_of}
use Rattle.pulsar_frame.specs.Reading.{too_short, not_bcd, bad_length, on_its_way, bad_crc}
use Rattle.pulsar_frame.proofs.Stores.{length_body, length_frame}

-- ---- what was written
module _ (a f id : ℕ) (p rest : List ℕ) where
  abbrev S : List ℕ
  S = frame_bytes a f id p ++ rest

  abbrev Crc : List ℕ
  Crc = le 2 (crc (frame_body a f id p))

  abbrev Head : List ℕ
  Head = f ∷ (length p + 10) ∷ []

  from_payload : S ≡ bcd 4 a ++ Head ++ (p ++ (le 2 id ++ (Crc ++ rest)))
  unfolding frame_bytes frame_body
  from_payload = simp append_assoc

  from_id : S ≡ bcd 4 a ++ Head ++ p ++ (le 2 id ++ (Crc ++ rest))
  from_id = from_payload ∙ sym (append_assoc (bcd 4 a ++ Head) p (le 2 id ++ (Crc ++ rest)))

  from_crc : S ≡ frame_body a f id p ++ (Crc ++ rest)
  unfolding frame_bytes
  from_crc = append_assoc (frame_body a f id p) Crc rest

  pub written_function : function_of S ≡ f
  unfolding frame_bytes frame_body bcd digits
  written_function = refl

  pub written_len : len_of S ≡ length p + 10
  unfolding frame_bytes frame_body bcd digits
  written_len = refl

  address_field : field S 0 4 ≡ bcd 4 a
  address_field =
      ap (λ (s : List ℕ). field s 0 4) (from_payload ∙ append_assoc (bcd 4 a) Head (p ++ (le 2 id ++ (Crc ++ rest))))
      ∙ field_at [] (bcd 4 a) (Head ++ (p ++ (le 2 id ++ (Crc ++ rest)))) 0 4 refl (length_bcd 4 a)

  pub written_bcd : not_bcd S ≡ false
  written_bcd = ap (λ (l : List ℕ). not (is_bcd l)) address_field ∙ ap not (T_true (is_bcd (bcd 4 a)) (bcd_is_bcd 4 a))

  pub written_address : a ≤ 99999999 → address_of S ≡ a
  written_address h = ap of_bcd address_field ∙ of_bcd_bcd 4 a (omega arith)

  pub written_payload : payload_of S (length p + 10) ≡ p
  written_payload =
      let k : length p + 10 - 10 ≡ length p = omega arith in
      let six : length (bcd 4 a ++ Head) ≡ 6 = simp (length-append, length_bcd) in
      ap (λ (n : ℕ). take n (drop 6 S)) k
      ∙ ap (λ (s : List ℕ). take (length p) (drop 6 s)) from_payload
      ∙ ap (take (length p)) (drop_at (bcd 4 a ++ Head) (p ++ (le 2 id ++ (Crc ++ rest))) 6 six)
      ∙ take_at p (le 2 id ++ (Crc ++ rest)) (length p) refl

  pub written_id : id < 65536 → id_of S ≡ id
  written_id h =
      let at : length (bcd 4 a ++ Head ++ p) ≡ len_of S - 4 = simp (length-append, length_bcd) (omega (arith, written_len)) in
      ap (λ (s : List ℕ). of_le (field s (len_of S - 4) 2)) from_id
      ∙ number_at (bcd 4 a ++ Head ++ p) (Crc ++ rest) (len_of S - 4) 2 id at h

  body_at : length (frame_body a f id p) ≡ len_of S - 2
  body_at = omega (arith, written_len, length_body a f id p)

  written_covered : covered_of S ≡ frame_body a f id p
  written_covered =
      ap (take (len_of S - 2)) from_crc ∙ take_at (frame_body a f id p) (Crc ++ rest) (len_of S - 2) body_at

  body_bytes : f < 256 → length p ≤ 245 → Bytes p → Bytes (frame_body a f id p)
  unfolding frame_body
  body_bytes hf hl hp =
      each_append (λ b. b < 256) (bcd 4 a) (Head ++ (p ++ le 2 id)) (bcd_bytes 4 a)
      (hf, (omega arith, each_append (λ b. b < 256) p (le 2 id) hp (le_bytes 2 id)))

  pub written_crc : f < 256 → length p ≤ 245 → Bytes p → bad_crc S ≡ false
  written_crc hf hl hp =
      let c = crc (frame_body a f id p) in
      let small : c < 65536 = crc_from_lt 0xFFFF (frame_body a f id p) (omega arith) (body_bytes hf hl hp) in
      let e : crc_of S ≡ c =
      ap (λ (s : List ℕ). of_le (field s (len_of S - 2) 2)) from_crc ∙ number_at (frame_body a f id p) rest (len_of S - 2) 2 c body_at small in
      ap not (eq-eqb (crc_of S) (crc (covered_of S)) (e ∙ ap crc (sym written_covered)))

  pub written_long : too_short S ≡ false
  written_long = le-ltb (length S) 10 (simp (length-append, length_frame) (omega arith))

  pub written_length : bad_length S ≡ false
  written_length = le-ltb (len_of S) 10 (omega (arith, written_len))

  pub written_whole : on_its_way S ≡ false
  written_whole = le-ltb (length S) (len_of S) (rw written_len (simp (length-append, length_frame) (omega arith)))

-- ---- what was read

module _ (s : List ℕ) (bytes : Bytes s) (isDecimal : not_bcd s ≡ false) (least : 10 ≤ len_of s) (most : len_of s ≤ length s) where
  abbrev P : List ℕ
  P = payload_of s (len_of s)

  payload_field : P ≡ field s 6 (len_of s - 10)
  payload_field = sym (field_take s 6 (len_of s - 10) (omega arith))

  pub read_payload : length P + 10 ≡ len_of s
  read_payload = omega (arith, ap length payload_field, length_field s 6 (len_of s - 10))

  address_bytes : bcd 4 (address_of s) ≡ field s 0 4
  address_bytes =
      ap (λ (w : ℕ). bcd w (address_of s)) (sym (length_field s 0 4))
      ∙ bcd_of_bcd (field s 0 4) (true_T (is_bcd (field s 0 4)) (not-false (is_bcd (field s 0 4)) isDecimal))

  head_bytes : function_of s ∷ (length P + 10) ∷ [] ≡ field s 4 2
  unfolding field
  head_bytes = ap (λ (n : ℕ). function_of s ∷ n ∷ []) read_payload

  body_parts : covered_of s ≡ field s 0 4 ++ (field s 4 2 ++ (field s 6 (len_of s - 10) ++ field s (len_of s - 4) 2))
  body_parts =
      let k = len_of s - 10 in
      let e : len_of s - 2 ≡ 4 + (2 + (k + 2)) = omega arith in
      let i : 6 + k ≡ len_of s - 4 = omega arith in
      sym (field_take s 0 (len_of s - 2) (omega arith))
      ∙ ap (field s 0) e
      ∙ field_append s 0 4 (2 + (k + 2))
      ∙ ap (λ (l : List ℕ). field s 0 4 ++ l)
      (field_append s 4 2 (k + 2)
      ∙ ap (λ (l : List ℕ). field s 4 2 ++ l)
      (field_append s 6 k 2 ∙ ap (λ (j : ℕ). field s 6 k ++ field s j 2) i))

  read_body : frame_body (address_of s) (function_of s) (id_of s) P ≡ covered_of s
  unfolding frame_body
  read_body = cc (address_bytes, head_bytes, payload_field, number_again s (len_of s - 4) 2 bytes, body_parts)

  pub read_frame_lem : bad_crc s ≡ false → frame_bytes (address_of s) (function_of s) (id_of s) P ≡ take (len_of s) s
  unfolding frame_bytes
  read_frame_lem good =
      let same : crc_of s ≡ crc (covered_of s) = eqb-true (crc_of s) (crc (covered_of s)) (not-false (eqb (crc_of s) (crc (covered_of s))) good) in
      let e : len_of s ≡ len_of s - 2 + 2 = omega arith in
      ap₂ (λ (x y : List ℕ). x ++ y) read_body (ap (le 2) (ap crc read_body ∙ sym same) ∙ number_again s (len_of s - 2) 2 bytes)
      ∙ ap (λ (l : List ℕ). l ++ field s (len_of s - 2) 2) (sym (field_take s 0 (len_of s - 2) (omega arith)))
      ∙ ap (λ (k : ℕ). field s 0 (len_of s - 2) ++ field s k 2) (sym (zero-add (len_of s - 2)))
      ∙ sym (field_append s 0 (len_of s - 2) 2)
      ∙ ap (field s 0) (sym e)
      ∙ field_take s 0 (len_of s) (omega arith)

  pub read_address : address_of s ≤ 99999999
  read_address =
      let h : address_of s < 100 ^ 4 = rw length_field at (of_bcd_lt (field s 0 4) (true_T (is_bcd (field s 0 4)) (not-false (is_bcd (field s 0 4)) isDecimal))) in
      omega arith

  pub read_small : length P ≤ 245
  read_small = omega (arith, read_payload, get_d_each (λ b. b < 256) (lit< tt) s bytes 5)
