-- What the code's judges have found; and a value's bytes as a part of the value bytes.
-- Assumes nothing.
use mathlib.Core.Path.{◌≡◌, refl, sym, ap, ap₂, ◌∙◌}
use mathlib.Core.Bool.{Bool, true, false, not, ◌||◌, true≢false}
use mathlib.Core.Logic.{◌⊎◌, inl, inr, ⊎_elim}
use mathlib.Core.List.{List}
use Prim.Native.Nat.{ℕ, suc, ◌+◌, ◌-◌, ◌*◌, ◌/◌, ◌≤◌, ◌<◌}
use native.Mathlib.Nat.{le-div_iff_mul-le, suc-mul}
use native.Mathlib.Omega.{arith}
use lib.Dec.{eqb, ltb}
use lib.ListN.{length, take, drop}
use borrow.Author.Tests.{eqb-true, eqb-false, eq-eqb, ltb-false, not-false}
use Rattle.wire.specs.Numbers.{field, of_le}
use Rattle.wire.specs.Refusal.{first, NoneHolds}
use Rattle.wire.proofs.Answer.{judged_none, none_judged}
use Rattle.wire.proofs.Bools.{or_neither}
use Rattle.wire.proofs.Rules.{none_first, first_none}
use Rattle.wire.proofs.Fields.{field_take, length_field}
use Rattle.wire.proofs.Turns.{of_le_whole}
use Rattle.reading.specs.Reading.{width_of, other_length, value_rules, value_of, read_value}
use Rattle.reading.specs.Values.{bad_width, place_rules, value_bytes, value_at, search_rules}
use Rattle.reading.specs.declared.Kind.{Kind}
use Rattle.reading.specs.declared.Kind.TheVariants as K
use Rattle.reading.specs.declared.Reading.{Reading}
use Rattle.std.specs.Prelude.{Result, Ok}
use Rattle.wire.specs.Answer.{judged}
use Rattle.wire.specs.declared.refusals.Refusal.{Refusal}

-- eight bytes are read, of which a value has no more than that
pub value_number : (kind : Kind) (bytes : List ℕ) → other_length kind bytes ≡ false → of_le (field bytes 0 8) ≡ of_le bytes
value_number kind bytes e = of_le_whole bytes 8 (few kind (eqb-true (length bytes) (width_of kind) (not-false (eqb (length bytes) (width_of kind)) e)))
  where
    few : (k : Kind) → length bytes ≡ width_of k → length bytes ≤ 8
    few K.F32 l = omega arith
    few K.F64 l = omega arith
    few K.U32 l = omega arith
    few K.U64 l = omega arith

-- a width that is not refused
pub four_or_eight : (width : ℕ) → bad_width width ≡ false → (width ≡ 4) ⊎ (width ≡ 8)
four_or_eight width e = go (eqb width 4) refl (eqb width 8) refl e
  where
    go : (a : Bool) → eqb width 4 ≡ a → (b : Bool) → eqb width 8 ≡ b → not (eqb width 4 || eqb width 8) ≡ false → (width ≡ 4) ⊎ (width ≡ 8)
    go true ea b eb h = inl (eqb-true width 4 ea)
    go false ea true eb h = inr (eqb-true width 8 eb)
    go false ea false eb h = absurd (true≢false (sym (ap₂ (λ (x y : Bool). not (x || y)) ea eb) ∙ h))

pub width_pos : (width : ℕ) → bad_width width ≡ false → 0 < width
width_pos width e = ⊎_elim (λ h. omega arith) (λ h. omega arith) (four_or_eight width e)

-- as the code asks it
pub width_judged : (r : Bool) (width : ℕ) → r ≡ bad_width width → r ≡ false → 0 < width
width_judged r width e h = width_pos width (sym e ∙ h)

pub search_judged : (width : ℕ) (values : List ℕ) → ◌≡◌ {A = Result Unit Refusal} (Ok tt) (judged tt (first (search_rules width values))) → 0 < width
search_judged width values e = width_pos width (none_first (search_rules width values) tt (none_judged tt _ tt e)).0

-- a place that is not refused lies within, and its value is what `read_value` makes of its bytes
module _ (width : ℕ) (kind : Kind) (values : List ℕ) (place : ℕ)
    (good : ◌≡◌ {A = Result Unit Refusal} (Ok tt) (judged tt (first (place_rules width kind values place)))) where
  none_holds : NoneHolds (place_rules width kind values place)
  none_holds = none_first (place_rules width kind values place) tt (none_judged tt _ tt good)

  tests : (eqb place 0 ≡ false) × (ltb (length values / width) place ≡ false)
  tests = or_neither (eqb place 0) (ltb (length values / width) place) none_holds.1.1.1.0

  pub place_some : 1 ≤ place
  place_some =
      let h = eqb-false place 0 tests.0 in
      omega arith

  pub place_within : (place - 1) * width + width ≤ length values
  place_within =
      let h : place ≤ length values / width = ltb-false (length values / width) place tests.1 in
      let back : suc (place - 1) ≡ place = omega (arith, place_some) in
      rw (← (suc-mul (place - 1) width), back) ((le-div_iff_mul-le (width_pos width none_holds.0)).0 h)

  pub place_read : (q p : List ℕ) (v : Result Reading Refusal) → q ≡ drop ((place - 1) * width) values → p ≡ take width q → v ≡ read_value kind p → v ≡ value_at width kind values place
  unfolding read_value value_at
  place_read q p v eq ep ev =
      let bytes = value_bytes width values (place - 1) in
      let same : p ≡ bytes = ep ∙ ap (take width) eq ∙ sym (field_take values ((place - 1) * width) width place_within) in
      let ours : width_of kind ≡ width = eqb-true (width_of kind) width (not-false (eqb (width_of kind) width) none_holds.1.0) in
      let fits : other_length kind bytes ≡ false = ap not (eq-eqb (length bytes) (width_of kind) (length_field values ((place - 1) * width) width ∙ sym ours)) in
      ev ∙ ap (read_value kind) same ∙ judged_none (value_of kind bytes) _ (first_none (value_rules kind bytes) (fits, tt))
      ∙ sym (judged_none (value_of kind bytes) _ (none_judged tt _ tt good))
