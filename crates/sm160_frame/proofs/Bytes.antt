-- The fields of a frame that was written, and the frame of the fields that were read.
-- Assumes nothing.
use mathlib.Core.Path.{◌≡◌, refl, sym, ap, ◌∙◌}
use mathlib.Core.Bool.{false, not}
use mathlib.Core.List.{List, ◌++◌}
use Prim.Native.Nat.{ℕ, ◌<◌, ◌≤◌}
use native.Mathlib.Omega.{arith}
use lib.Dec.{eqb, ltb, lit<}
use lib.ListN.{length, drop, take-append-drop}
use borrow.Author.Tests.{le-ltb, eq-eqb, ltb-false, eqb-true, not-false}
use Rattle.checksum.specs.Crc.{crc_from}
use Rattle.checksum.proofs.Laws.{crc_from_lt}
use Rattle.wire.specs.Each.{Bytes}
use Rattle.wire.specs.Numbers.{le, digits, field}
use Rattle.wire.proofs.Rules.{first_none, none_first}
use Rattle.wire.proofs.Bools.{or_neither}
use Rattle.wire.proofs.Each.{each_append}
use Rattle.wire.proofs.Numbers.{of_le_le, le_bytes}
use Rattle.wire.proofs.Fields.{field_take, number_again}
use Rattle.sm160_frame.specs.Layout.{QA, has, crc_due, frame_with, frame_bytes, session_of, offset_of, size_of, crc_of, flags_of, part_of}
use Rattle.sm160_frame.specs.Reading.{bad_part, bad_flags, wrong_size, wrong_crc, too_short, frame_rules, frame_fault}
use Rattle.sm160_frame.proofs.Stores.{length_frame}

abbrev B : ℕ → Type 0
B b = b < 256

pub small_flags : (flags : ℕ) → bad_flags flags ≡ false → flags ≤ 7
small_flags flags e = ltb-false 7 flags (or_neither (has QA flags) (ltb 7 flags) e).1

-- ---- what was written
module _ (crc session offset flags : ℕ) (p : List ℕ) where
  -- the CRC16 that is due: from 0000 over the frame that bears 0
  with_due_lem : crc_due (frame_with crc session offset flags p) ≡ crc_from 0 (frame_with 0 session offset flags p)
  unfolding frame_with crc_due le digits
  with_due_lem = refl

  with_bytes : Bytes p → Bytes (frame_with crc session offset flags p)
  unfolding frame_with
  with_bytes hp =
      each_append B (le 2 session) _ (le_bytes 2 session)
      (each_append B (le 4 offset) _ (le_bytes 4 offset)
      (each_append B (le 2 (length p)) _ (le_bytes 2 (length p))
      (each_append B (le 2 crc) _ (le_bytes 2 crc)
      (each_append B (le 2 flags) p (le_bytes 2 flags) hp))))

module _ (session offset flags : ℕ) (p : List ℕ) where
  abbrev F : List ℕ
  F = frame_bytes session offset flags p

  abbrev due : ℕ
  due = crc_due (frame_with 0 session offset flags p)

  pub made_session : session < 65536 → session_of F ≡ session
  unfolding frame_bytes frame_with field le digits
  made_session h = of_le_le 2 session h

  pub made_offset : offset < 4294967296 → offset_of F ≡ offset
  unfolding frame_bytes frame_with field le digits
  made_offset h = of_le_le 4 offset h

  made_size : length p < 65536 → size_of F ≡ length p
  unfolding frame_bytes frame_with field le digits
  made_size h = of_le_le 2 (length p) h

  made_crc : due < 65536 → crc_of F ≡ due
  unfolding frame_bytes frame_with field le digits
  made_crc h = of_le_le 2 due h

  pub made_flags : flags < 65536 → flags_of F ≡ flags
  unfolding frame_bytes frame_with field le digits
  made_flags h = of_le_le 2 flags h

  pub made_part : part_of F ≡ p
  unfolding frame_bytes frame_with part_of le digits
  made_part = refl

  right_length : too_short F ≡ false
  right_length = le-ltb (length F) 12 (omega (arith, length_frame session offset flags p))

  right_size : length p < 65536 → wrong_size F ≡ false
  right_size h = ap not (eq-eqb (size_of F) (length (part_of F)) (made_size h ∙ ap length (sym made_part)))

  right_crc : Bytes p → wrong_crc F ≡ false
  unfolding frame_bytes
  right_crc hp =
      let small : due < 65536 =
      rw (with_due_lem 0 session offset flags p) (crc_from_lt 0 (frame_with 0 session offset flags p) (lit< tt) (with_bytes 0 session offset flags p hp)) in
      let same : due ≡ crc_due F = with_due_lem 0 session offset flags p ∙ sym (with_due_lem due session offset flags p) in
      ap not (eq-eqb (crc_of F) (crc_due F) (made_crc small ∙ same))

  -- a frame made of good fields is good
  pub made_good : (limit : ℕ) → length p < 65536 → Bytes p → bad_part limit p ≡ false → bad_flags flags ≡ false → frame_fault limit F ≡ 0
  unfolding frame_fault
  made_good limit fits hp good_part good-flags =
      let few = small_flags flags good-flags in
      first_none (frame_rules limit F) (
        right_length,
        (
          right_size fits,
          (
            ap (bad_part limit) made_part ∙ good_part,
            (
              right_crc hp,
              (ap bad_flags (made_flags (omega arith)) ∙ good-flags, tt),
            ),
          ),
        ),
      )

-- ---- what was read
module _ (s : List ℕ) (bytes : Bytes s) where
  header_parts : field s 0 2 ++ (field s 2 4 ++ (field s 6 2 ++ (field s 8 2 ++ (field s 10 2 ++ part_of s)))) ≡ field s 0 12 ++ part_of s
  unfolding field
  header_parts = refl

  whole : 12 ≤ length s → field s 0 12 ++ part_of s ≡ s
  unfolding part_of
  whole h = ap (λ (l : List ℕ). l ++ drop 12 s) (field_take s 0 12 h) ∙ take-append-drop 12 s

  read_with : 12 ≤ length s → size_of s ≡ length (part_of s) → frame_with (crc_of s) (session_of s) (offset_of s) (flags_of s) (part_of s) ≡ s
  unfolding frame_with
  read_with long size =
      cc (number_again s 0 2 bytes, number_again s 2 4 bytes, number_again s 6 2 bytes, number_again s 8 2 bytes, number_again s 10 2 bytes, header_parts, whole long)

  -- where no rule of 21 to 25 holds, the bytes are those of the fields
  pub read_bytes : (limit : ℕ) → frame_fault limit s ≡ 0 → frame_bytes (session_of s) (offset_of s) (flags_of s) (part_of s) ≡ s
  unfolding frame_fault frame_bytes
  read_bytes limit e =
      let h = none_first (frame_rules limit s) tt e in
      let long : 12 ≤ length s = ltb-false (length s) 12 h.0 in
      let size : size_of s ≡ length (part_of s) = eqb-true (size_of s) (length (part_of s)) (not-false (eqb (size_of s) (length (part_of s))) h.1.0) in
      let same : crc_of s ≡ crc_due s = eqb-true (crc_of s) (crc_due s) (not-false (eqb (crc_of s) (crc_due s)) h.1.1.1.0) in
      let fields : frame_with (crc_of s) (session_of s) (offset_of s) (flags_of s) (part_of s) ≡ s = read_with long size in
      let due : crc_due (frame_with 0 (session_of s) (offset_of s) (flags_of s) (part_of s)) ≡ crc_of s =
      with_due_lem 0 (session_of s) (offset_of s) (flags_of s) (part_of s)
      ∙ sym (with_due_lem (crc_of s) (session_of s) (offset_of s) (flags_of s) (part_of s))
      ∙ ap crc_due fields
      ∙ sym same in
      ap (λ (c : ℕ). frame_with c (session_of s) (offset_of s) (flags_of s) (part_of s)) due ∙ fields
