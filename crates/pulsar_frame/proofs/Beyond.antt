-- Bytes received beyond LEN are ignored: a frame of which all LEN bytes came is answered as these alone, refused or not.
-- Assumes nothing.
use mathlib.Core.Path.{◌≡◌, refl, sym, ap, ap₂, ◌∙◌}
use mathlib.Core.Bool.{Bool}
use mathlib.Core.List.{List, ◌∷◌}
use Prim.Native.Nat.{ℕ, zero, suc, ◌+◌, ◌-◌, ◌≤◌}
use native.Mathlib.Omega.{arith}
use lib.Dec.{ltb}
use lib.ListN.{length, take}
use lib.Seq.{get_or-take, take-take, length-take-le}
use borrow.Author.Tests.{le-ltb}
use Rattle.wire.specs.Answer.{answered}
use Rattle.wire.specs.Numbers.{field}
use Rattle.wire.specs.Refusal.{pick, first}
use Rattle.pulsar_frame.specs.Layout.{function_of, len_of, covered_of}
use Rattle.pulsar_frame.specs.Reading.{too_short, bad_length, on_its_way, missing, meter_rules, master_rules, frame_of, refusal, read_answer, read_at_meter, read_at_master}
use Rattle.pulsar_frame.specs.declared.Frame.{Frame}
use Rattle.std.specs.Prelude.{Ok, Err}

-- a field within the first n bytes
field_front : (s : List ℕ) (n at w : ℕ) → at + w ≤ n → field (take n s) at w ≡ field s at w
unfolding field
field_front s n at zero h = refl
field_front s n at (suc w) h =
    ap₂ (λ (x : ℕ) (xs : List ℕ). x ∷ xs) (get_or-take n s at 0 (omega arith)) (field_front s n (at + 1) w (omega arith))

module _ (s : List ℕ) (least : 10 ≤ len_of s) (most : len_of s ≤ length s) where
  abbrev Front : List ℕ
  Front = take (len_of s) s

  same_len : len_of Front ≡ len_of s
  same_len = get_or-take (len_of s) s 5 0 (omega arith)

  same_function : function_of Front ≡ function_of s
  same_function = get_or-take (len_of s) s 4 0 (omega arith)

  same_address : field Front 0 4 ≡ field s 0 4
  same_address = field_front s (len_of s) 0 4 (omega arith)

  same_id : field Front (len_of Front - 4) 2 ≡ field s (len_of s - 4) 2
  same_id = ap (λ (n : ℕ). field Front (n - 4) 2) same_len ∙ field_front s (len_of s) (len_of s - 4) 2 (omega arith)

  same_crc : field Front (len_of Front - 2) 2 ≡ field s (len_of s - 2) 2
  same_crc = ap (λ (n : ℕ). field Front (n - 2) 2) same_len ∙ field_front s (len_of s) (len_of s - 2) 2 (omega arith)

  same_covered : covered_of Front ≡ covered_of s
  same_covered = ap (λ (n : ℕ). take (n - 2) Front) same_len ∙ take-take (len_of s - 2) (len_of s) s (omega arith)

  -- ten bytes, and LEN of them, came and are taken
  same_short : too_short Front ≡ too_short s
  same_short = le-ltb (length Front) 10 (omega (arith, length-take-le (len_of s) s most)) ∙ sym (le-ltb (length s) 10 (omega arith))

  same_length : bad_length Front ≡ bad_length s
  same_length = ap (λ (n : ℕ). ltb n 10) same_len

  same_on_its_way : on_its_way Front ≡ on_its_way s
  same_on_its_way =
      let all = length-take-le (len_of s) s most in
      le-ltb (length Front) (len_of Front) (omega (arith, same_len, all)) ∙ sym (le-ltb (length s) (len_of s) most)

  -- none lack
  same_missing : missing Front ≡ missing s
  same_missing =
      let all = length-take-le (len_of s) s most in
      let none : len_of Front - length Front ≡ len_of s - length s = omega (arith, same_len, all) in
      ap₂ (λ (b : Bool) (n : ℕ). pick b 0 n) same_short none

  same_frame : frame_of Front ≡ frame_of s
  same_frame = cc (same_address, same_function, same_id, same_len)

  same_answer : (n m : ℕ) → n ≡ m → read_answer Front n ≡ read_answer s m
  same_answer n m e =
      ap (read_answer Front) e ∙ ap₂ (λ (k : ℕ) (fr : Frame). answered (λ n. Err (refusal k n)) (Ok fr) m) same_missing same_frame

  same_at_meter : (own : ℕ) → first (meter_rules own Front) ≡ first (meter_rules own s)
  same_at_meter own = cc (same_short, same_address, same_length, same_on_its_way, same_crc, same_covered, same_function)

  same_at_master : (address function id : ℕ) → first (master_rules address function id Front) ≡ first (master_rules address function id s)
  same_at_master address function id = cc (same_short, same_address, same_function, same_length, same_on_its_way, same_crc, same_covered, same_id)

pub meter_ignores_beyond : (own : ℕ) (s : List ℕ) → 10 ≤ len_of s → len_of s ≤ length s → read_at_meter own s ≡ read_at_meter own (take (len_of s) s)
unfolding read_at_meter
meter_ignores_beyond own s least most = sym (same_answer s least most _ _ (same_at_meter s least most own))

pub master_ignores_beyond : (address function id : ℕ) (s : List ℕ) → 10 ≤ len_of s → len_of s ≤ length s
    → read_at_master address function id s ≡ read_at_master address function id (take (len_of s) s)
unfolding read_at_master
master_ignores_beyond address function id s least most = sym (same_answer s least most _ _ (same_at_master s least most address function id))
