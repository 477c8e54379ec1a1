-- The fields of a card fit their widths, so the code reads each whole.
-- Assumes nothing.
use mathlib.Core.Path.{◌≡◌, sym, ap, ◌∙◌}
use mathlib.Core.Bool.{Bool, false}
use mathlib.Core.List.{List, [], ◌∷◌, ◌++◌}
use Prim.Native.Nat.{ℕ, ◌+◌, ◌%◌, ◌^◌, ◌≤◌, ◌<◌}
use native.Mathlib.Nat.{mod-eq_of_lt, lt_of_lt_of_le}
use native.Mathlib.Omega.{arith}
use lib.Pow.{pow_mono}
use lib.ListN.{length, get_or}
use lib.Seq.{get_or-drop}
use Rattle.wire.specs.Each.{Each}
use Rattle.wire.specs.Numbers.{field}
use Rattle.wire.proofs.Each.{get_d_each, each_append}
use Rattle.bits.specs.Fields.{unpacked, total}
use Rattle.reading.specs.Reading.{kind_from}
use Rattle.bits.proofs.Fields.{value_fits}
use Rattle.bits.proofs.Read.{unpacked_front}
use Rattle.card.specs.declared.fields.Fields.{Fields}
use Rattle.card.specs.Reading.{other_length}
use Rattle.card.specs.Layout.{field_widths, field_of, fields_in, Form, widths_of, after_fields, spare_of}

pub field_fits : (s : List ℕ) (k : ℕ) → field_of k s < 2 ^ get_or field_widths k 0
unfolding field_of
field_fits s k = value_fits field_widths s k

-- one of at most eight bits
pub field_byte : (s : List ℕ) (k : ℕ) → get_or field_widths k 0 < 9 → field_of k s < 2 ^ 8
field_byte s k h =
    let few : get_or field_widths k 0 ≤ 8 = omega arith in
    lt_of_lt_of_le (field_fits s k) (pow_mono few)

-- none has more than 64 bits
abbrev pub Most : ℕ → Type 0
Most w = w ≤ 64

most : Each Most field_widths
most = (omega arith, (omega arith, (omega arith, (omega arith, (omega arith, (omega arith, (omega arith, (omega arith, (omega arith, (omega arith, tt))))))))))

whole : (ws s : List ℕ) (k r : ℕ) → Each Most ws → r ≡ get_or (unpacked ws s) k 0 % 2 ^ 64 → r ≡ get_or (unpacked ws s) k 0
whole ws s k r h e = e ∙ mod-eq_of_lt (lt_of_lt_of_le (value_fits ws s k) (pow_mono (get_d_each Most (omega arith) ws h k)))

pub field_whole : (s : List ℕ) (k r : ℕ) → r ≡ get_or (unpacked field_widths s) k 0 % 2 ^ 64 → r ≡ field_of k s
unfolding field_of
field_whole s k r e = whole field_widths s k r most e

-- and so of a form, whose widths the code has
pub form_whole : (f : Form) (ws s : List ℕ) (k r : ℕ) → Each Most (f.own ++ (f.spare ∷ [])) → ws ≡ widths_of f → r ≡ get_or (unpacked ws s) k 0 % 2 ^ 64 → r ≡ get_or (unpacked (widths_of f) s) k 0
form_whole f ws s k r h ew e =
    whole (widths_of f) s k r (each_append Most field_widths (f.own ++ (f.spare ∷ [])) most h) (e ∙ ap (λ (l : List ℕ). get_or (unpacked l s) k 0 % 2 ^ 64) ew)

pub form_spare : (f : Form) (s : List ℕ) (k r : ℕ) → k ≡ 10 + length f.own → r ≡ get_or (unpacked (widths_of f) s) k 0 → r ≡ spare_of f s
unfolding after_fields
form_spare f s k r ek e =
    e ∙ ap (λ (n : ℕ). get_or (unpacked (widths_of f) s) n 0) ek ∙ sym (get_or-drop 10 (unpacked (widths_of f) s) (length f.own) 0)

-- and its length, which the code has and asks for
pub form_length : (s : List ℕ) (r : Bool) (n k m : ℕ) → r ≡ other_length n s → n ≡ k → k ≡ m → r ≡ false → other_length m s ≡ false
form_length s r n k m e en ek f = sym (e ∙ ap (λ (j : ℕ). other_length j s) (en ∙ ek)) ∙ f

-- ---- the ten fields lie in the first 17 bytes

-- those that ten values say
unfoldable pub fields_from : List ℕ → Fields
fields_from vs =
    record {
      address = get_or vs 0 0;
      channel = get_or vs 1 0 + 1;
      time =
          record { year = get_or vs 2 0; month = get_or vs 3 0; day = get_or vs 4 0; hour = get_or vs 5 0; minute = get_or vs 6 0; second = get_or vs 7 0 };
      kind = kind_from (get_or vs 8 0);
      bits = get_or vs 9 0;
    }

pub fields_front : (s : List ℕ) → fields_in (field s 0 17) ≡ fields_in s
unfolding field_of fields_from total
fields_front s = ap fields_from (unpacked_front field_widths s 17 (omega arith))

-- as the readers find them
pub found_fields : (s card : List ℕ) (f : Fields) → card ≡ field s 0 17 → f ≡ fields_in card → f ≡ fields_in s
found_fields s card f ec ef = ef ∙ ap fields_in ec ∙ fields_front s
