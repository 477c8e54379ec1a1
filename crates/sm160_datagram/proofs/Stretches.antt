-- Two stretches as one: what the code reads from either and gathers from both, the CRC-32 over both in turn, and the lengths judged without a sum.
-- Assumes nothing.
use mathlib.Core.Path.{◌≡◌, refl, sym, ap, ap₂, ◌∙◌}
use mathlib.Core.Bool.{Bool, true, false, not, ◌||◌}
use mathlib.Core.List.{List, [], ◌∷◌, ◌++◌}
use Prim.Native.Nat.{ℕ, zero, suc, ◌+◌, ◌*◌, ◌-◌, ◌≤◌}
use native.Mathlib.Nat.{sub-zero, zero-sub, suc-sub-suc}
use native.Mathlib.Omega.{arith}
use borrow.Author.Tests.{ltb-true, ltb-false, eqb-true, eqb-false, eq-eqb, ne_eqb}
use lib.Dec.{ltb, eqb}
use lib.ListN.{length, take, drop, get_or, replicate, length-drop, drop_of_length-le, get_or-append}
use lib.Seq.{sets, take-nil, drop-nil}
use Rattle.checksum.specs.Crc32.{crc32, crc32_from}
use Rattle.checksum.proofs.Crc32.{crc32_append}
use mir.Syntax.{w32, w64}
use Rattle.std.specs.Int.{from_le_bytes}
use Rattle.wire.specs.Numbers.{number, of_le, field}
use Rattle.wire.proofs.Fields.{field_take}
use Rattle.wire.proofs.Turns.{field_of_rest}
use Rattle.wire.proofs.Writing.{sets_then, over_zeros}
use Rattle.sm160_datagram.specs.Layout.{crc_due}
use Rattle.sm160_datagram.specs.Reading.{differ}

take_two : (n : ℕ) (xs ys : List ℕ) → take n (xs ++ ys) ≡ take n xs ++ take (n - length xs) ys
take_two n [] ys = rw (sub-zero n) (sym (ap (λ (l : List ℕ). l ++ take n ys) (take-nil n)))
take_two zero (x ∷ xs) ys = sym (ap (λ (k : ℕ). take k ys) (zero-sub (suc (length xs))))
take_two (suc n) (x ∷ xs) ys =
    ap (λ (l : List ℕ). x ∷ l) (take_two n xs ys ∙ ap (λ (k : ℕ). take n xs ++ take k ys) (sym (suc-sub-suc n (length xs))))

drop_two : (n : ℕ) (xs ys : List ℕ) → drop n (xs ++ ys) ≡ drop n xs ++ drop (n - length xs) ys
drop_two n [] ys = rw (sub-zero n) (sym (ap (λ (l : List ℕ). l ++ drop n ys) (drop-nil n)))
drop_two zero (x ∷ xs) ys = sym (ap (λ (k : ℕ). x ∷ xs ++ drop k ys) (zero-sub (suc (length xs))))
drop_two (suc n) (x ∷ xs) ys = drop_two n xs ys ∙ ap (λ (k : ℕ). drop n xs ++ drop k ys) (sym (suc-sub-suc n (length xs)))

-- ---- what is gathered
pub gathered : (held part out : List ℕ) (at : ℕ)
    → sets (sets out 0 (drop at held)) (length held - at) (drop (at - length held) part) ≡ sets out 0 (drop at (held ++ part))
gathered held part out at =
    sets_then out (drop at held) (drop (at - length held) part) (length held - at) (length-drop at held)
    ∙ ap (sets out 0) (sym (drop_two at held part))

-- ---- what one of the stretches has alone
-- the first w bytes, taken as they stand
pub taken_field : (s : List ℕ) (w : ℕ) → w ≤ length s → take w s ≡ field s 0 w
taken_field s w h = sym (field_take s 0 w (omega arith))

field_front : (held part : List ℕ) (at w : ℕ) → at + w ≤ length held → field held at w ≡ field (held ++ part) at w
unfolding field
field_front held part at zero h = refl
field_front held part at (suc w) h =
    ap₂ (λ (x : ℕ) (l : List ℕ). x ∷ l) (sym (get_or-append held part 0 at (omega arith))) (field_front held part (at + 1) w (omega arith))

no_bytes : (s t : List ℕ) (at : ℕ) → field s at 0 ≡ field t at 0
unfolding field
no_bytes s t at = refl

pub in_first : (held part : List ℕ) (at w left : ℕ) → left ≡ length held - at → w ≤ left → field (drop at held) 0 w ≡ field (held ++ part) at w
in_first held part at zero left e h = field_of_rest held at 0 ∙ no_bytes held (held ++ part) at
in_first held part at (suc w) left e h = field_of_rest held at (suc w) ∙ field_front held part at (suc w) (omega arith)

pub in_second : (held part : List ℕ) (at w left : ℕ) → left ≡ length held - at → left ≡ 0 → field (drop (at - length held) part) 0 w ≡ field (held ++ part) at w
in_second held part at w left e none =
    ap (λ (l : List ℕ). field l 0 w)
    (sym (drop_two at held part ∙ ap (λ (l : List ℕ). l ++ drop (at - length held) part) (drop_of_length-le held (omega arith))))
    ∙ field_of_rest (held ++ part) at w

-- so the w bytes that are gathered over w zeros are those of both stretches
pub gathered_field : (held part : List ℕ) (at w : ℕ)
    → sets (sets (replicate w 0) 0 (drop at held)) (length held - at) (drop (at - length held) part) ≡ field (held ++ part) at w
gathered_field held part at w =
    gathered held part (replicate w 0) at ∙ over_zeros w (drop at (held ++ part)) ∙ field_of_rest (held ++ part) at w

-- and the number that the library reads from bytes that were taken out is the number where they stood
four : (a b c d : ℕ) → a + b * 256 + c * 65536 + d * 16777216 ≡ a + 256 * (b + 256 * (c + 256 * (d + 256 * 0)))
four a b c d = omega arith

eight : (a b c d e f g h : ℕ) → a + b * 256 + c * 65536 + d * 16777216 + e * 4294967296 + f * 1099511627776 + g * 281474976710656 + h * 72057594037927936
    ≡ a + 256 * (b + 256 * (c + 256 * (d + 256 * (e + 256 * (f + 256 * (g + 256 * (h + 256 * 0)))))))
eight a b c d e f g h = omega arith

pub four_taken : (d : List ℕ) (at : ℕ) → from_le_bytes w32 (field d at 4) ≡ of_le (field d at 4)
unfolding field of_le number
four_taken d at = four (get_or d at 0) (get_or d (at + 1) 0) (get_or d (at + 1 + 1) 0) (get_or d (at + 1 + 1 + 1) 0)

pub eight_taken : (d : List ℕ) (at : ℕ) → from_le_bytes w64 (field d at 8) ≡ of_le (field d at 8)
unfolding field of_le number
eight_taken d at =
    eight (get_or d at 0) (get_or d (at + 1) 0) (get_or d (at + 1 + 1) 0) (get_or d (at + 1 + 1 + 1) 0)
    (get_or d (at + 1 + 1 + 1 + 1) 0) (get_or d (at + 1 + 1 + 1 + 1 + 1) 0) (get_or d (at + 1 + 1 + 1 + 1 + 1 + 1) 0) (get_or d (at + 1 + 1 + 1 + 1 + 1 + 1 + 1) 0)

-- ---- the CRC-32 over both stretches in turn
pub crc_in_stretches : (held part : List ℕ) (n : ℕ) → n ≡ length (held ++ part) - 12
    → crc32_from (crc32_from 0 (take n held)) (take (n - length held) part) ≡ crc_due (held ++ part)
unfolding crc_due
crc_in_stretches held part n e =
    sym (crc32_append 0 (take n held) (take (n - length held) part))
    ∙ ap crc32 (sym (take_two n held part))
    ∙ ap (λ (k : ℕ). crc32 (take k (held ++ part))) e

-- ---- the lengths are judged without a sum
no_sum : (n o d : ℕ) → 18 ≤ n → (ltb (n - 18) o || not (eqb (n - 18 - o) d)) ≡ not (eqb (18 + o + d) n)
no_sum n o d h = go (ltb (n - 18) o) refl (eqb (n - 18 - o) d) refl
  where
    go : (a : Bool) → ltb (n - 18) o ≡ a → (b : Bool) → eqb (n - 18 - o) d ≡ b → (a || not b) ≡ not (eqb (18 + o + d) n)
    go true ea b eb =
        let l = ltb-true (n - 18) o ea in
        sym (ap not (ne_eqb (18 + o + d) n (λ z. omega arith)))
    go false ea true eb =
        let l = ltb-false (n - 18) o ea in
        let m = eqb-true (n - 18 - o) d eb in
        sym (ap not (eq-eqb (18 + o + d) n (omega arith)))
    go false ea false eb =
        let l = ltb-false (n - 18) o ea in
        let m = eqb-false (n - 18 - o) d eb in
        sym (ap not (ne_eqb (18 + o + d) n (λ z. m (omega arith))))

pub differ_tested : (n o d : ℕ) → ((ltb n 18 || ltb (n - 18) o) || not (eqb (n - 18 - o) d)) ≡ differ n o d
differ_tested n o d = go (ltb n 18) refl
  where
    go : (a : Bool) → ltb n 18 ≡ a → ((a || ltb (n - 18) o) || not (eqb (n - 18 - o) d)) ≡ (a || not (eqb (18 + o + d) n))
    go true e = refl
    go false e = no_sum n o d (ltb-false n 18 e)
