-- A form of the card, written and read again: its ten fields, its own and its spare bits. One statement of any form, both ways.
-- Assumes nothing.
use mathlib.Core.Path.{◌≡◌, refl, sym, ap, ap₂, ◌∙◌, subst}
use mathlib.Core.Bool.{false, not}
use mathlib.Core.List.{List, [], ◌∷◌, ◌++◌}
use Prim.Native.Nat.{ℕ, zero, suc, ◌+◌, ◌-◌, ◌*◌, ◌≤◌, ◌<◌}
use native.Mathlib.Omega.{arith}
use lib.Dec.{eqb, ltb}
use lib.Pow.{pow_pos}
use lib.ListN.{length, get_or, take, drop, length-append}
use lib.Seq.{take_at}
use borrow.Author.Tests.{eqb-true, eqb-false, eq-eqb, ne_eqb, ltb-false, le-ltb, not-false}
use Rattle.wire.specs.Each.{Bytes}
use Rattle.wire.specs.Numbers.{over}
use Rattle.wire.specs.Refusal.{◌when◌, first, NoneHolds}
use Rattle.std.specs.Prelude.{Ok}
use Rattle.wire.specs.Writes.{Written, Writes}
use Rattle.wire.proofs.Rules.{none_first, first_none, none_append, none_both, numbered_append}
use Rattle.wire.proofs.Writes.{wrote_front, wrote_all}
use Rattle.wire.proofs.Bools.{or_neither, neither_or}
use Rattle.bits.specs.Bits.{bits_in}
use Rattle.bits.specs.Fields.{joined, packed, unpacked, values_from, Fit}
use Rattle.bits.proofs.Bits.{length_bytes_of}
use Rattle.bits.proofs.Fields.{packed_reads_back, packed_writes_again}
use Rattle.date.specs.Date.{is_date}
use Rattle.date.proofs.Laws.{date_ranges}
use Rattle.reading.specs.Reading.{number_of, kind_from, reading_of, bits_of, kind_of, FitsKind}
use Rattle.reading.specs.declared.Kind.{Kind}
use Rattle.reading.specs.declared.Reading.{Reading}
use Rattle.reading.proofs.Laws.{kind_reads_back, kind_number, number_below, kind_of_made, made_again, fits_64}
use Rattle.card.specs.Layout.{field_widths, fields, field_of, channel_number, value_kind, value_bits, fields_in, card_from, card_of, Form, widths_of, form_bytes, after_fields, own_of, spare_of, Lawful}
use Rattle.card.specs.Reading.{bad_address, bad_time, upper_half_set, field_rules, form_rules, Reads}
use Rattle.card.specs.Writing.{bad_channel, card_rules, too_small, form_write_rules}
use Rattle.card.specs.declared.Card.{Card}
use Rattle.card.proofs.Widths.{field_fits, fields_from}
use Rattle.card.proofs.Parts.{bits_of_made, made_fits, fits_no_upper}

-- what holds of one field, and of those after it
infixr 1 ◌and◌
◌and◌ : {A B : Type 0} → A → B → A × B
a and b = (a, b)

-- a channel that is not refused
channel_within : (channel : ℕ) → bad_channel channel ≡ false → (1 ≤ channel) × (channel ≤ 32)
channel_within channel e =
    let t = or_neither (eqb channel 0) (ltb 32 channel) e in
    let some = eqb-false channel 0 t.0 in
    (omega (arith, some), ltb-false 32 channel t.1)

-- the value of a card that is read fits its kind
pub read_fits : (s : List ℕ) → FitsKind (card_of s).value
read_fits s = made_fits (value_kind s) (value_bits s) (field_fits s 9)

-- ---- lists of values

fit_both : (ws vs ws' vs' : List ℕ) → Fit ws vs → Fit ws' vs' → Fit (ws ++ ws') (vs ++ vs')
fit_both [] [] ws' vs' h k = k
fit_both [] (v ∷ vs) ws' vs' h k = absurd h
fit_both (w ∷ ws) [] ws' vs' h k = absurd h
fit_both (w ∷ ws) (v ∷ vs) ws' vs' h k = (h.0, fit_both ws vs ws' vs' h.1 k)

-- the value after n
get_d_after : (xs : List ℕ) (y n : ℕ) → length xs ≡ n → get_or (xs ++ (y ∷ [])) n 0 ≡ y
get_d_after [] y zero e = refl
get_d_after [] y (suc n) e = absurd (omega arith)
get_d_after (x ∷ xs) y zero e = absurd (omega arith)
get_d_after (x ∷ xs) y (suc n) e = get_d_after xs y n (omega arith)

first_and_last : (xs : List ℕ) (n : ℕ) → length xs ≡ n + 1 → take n xs ++ (get_or xs n 0 ∷ []) ≡ xs
first_and_last [] n e = absurd (omega arith)
first_and_last (x ∷ []) zero e = refl
first_and_last (x ∷ (y ∷ ys)) zero e = absurd (omega arith)
first_and_last (x ∷ xs) (suc n) e = ap (λ (l : List ℕ). x ∷ l) (first_and_last xs n (omega arith))

length_values : (ws : List ℕ) (at : ℕ) (bs : List ℕ) → length (values_from ws at bs) ≡ length ws
unfolding values_from
length_values [] at bs = refl
length_values (w ∷ ws) at bs = ap suc (length_values ws (at + w) bs)

module _ (f : Form) (law : Lawful f) where
  -- ---- written, then read
  module _ (own : List ℕ) (counted : length own ≡ length f.own) (good : NoneHolds (f.rules own)) (c : Card) (fits : FitsKind c.value) (none : NoneHolds (card_rules c)) where
    abbrev s : List ℕ
    s = form_bytes f c own

    fit : Fit (widths_of f) (fields c ++ (own ++ (0 ∷ [])))
    fit =
        let address = ltb-false 99999999 c.address (or_neither (eqb c.address 0) (ltb 99999999 c.address) none.0).1 in
        let channel = channel_within c.channel none.1.1.0 in
        let r = date_ranges c.time (not-false (is_date c.time) none.1.0) in
        omega arith
        and omega arith
        and omega (arith, r.year)
        and omega (arith, r.month)
        and omega (arith, r.day)
        and omega (arith, r.hour)
        and omega (arith, r.minute)
        and omega (arith, r.second)
        and number_below (kind_of c.value)
        and fits_64 c.value fits
        and fit_both f.own own (f.spare ∷ []) (0 ∷ []) (law.fits own counted good) (pow_pos f.spare, tt)

    -- every field as it was
    form_back : unpacked (widths_of f) s ≡ fields c ++ (own ++ (0 ∷ []))
    form_back = packed_reads_back f.size (widths_of f) (fields c ++ (own ++ (0 ∷ []))) fit law.filled

    fields_back : unpacked field_widths s ≡ fields c
    unfolding values_from
    fields_back = ap (take 10) form_back

    after_back : after_fields f s ≡ own ++ (0 ∷ [])
    unfolding after_fields
    after_back = ap (drop 10) form_back

    card_back : card_of s ≡ c
    unfolding field_of fields_from
    card_back =
        let within = channel_within c.channel none.1.1.0 in
        let channel : c.channel - 1 + 1 ≡ c.channel = omega arith in
        let value = ap (λ (k : Kind). reading_of k (bits_of c.value)) (kind_reads_back (kind_of c.value)) ∙ made_again c.value fits in
        ap (λ (vs : List ℕ). card_from (fields_from vs)) fields_back ∙ ap₂ (λ (m : ℕ) (v : Reading). record { address = c.address; channel = m; time = c.time; value = v }) channel value

    own_back : own_of f s ≡ own
    own_back =
        ap (take (length f.own)) after_back ∙ take_at own (0 ∷ []) (length f.own) counted

    ten_accepted : NoneHolds (field_rules (fields_in s))
    unfolding field_of
    ten_accepted =
        let kind : value_kind s ≡ kind_of c.value = ap (λ (vs : List ℕ). kind_from (get_or vs 8 0)) fields_back ∙ kind_reads_back (kind_of c.value) in
        let bits : value_bits s ≡ bits_of c.value = ap (λ (vs : List ℕ). get_or vs 9 0) fields_back in
        (ap (λ (x : Card). bad_address x.address) card_back ∙ none.0)
        and (ap (λ (x : Card). bad_time x.time) card_back ∙ none.1.0)
        and (ap₂ upper_half_set kind bits ∙ fits_no_upper c.value fits)
        and tt

    pub form_read : Reads f s c own
    form_read =
        let long = length_bytes_of f.size (joined (widths_of f) (fields c ++ (own ++ (0 ∷ [])))) in
        let spare = ap (λ (l : List ℕ). get_or l (length f.own) 0) after_back ∙ get_d_after own 0 (length f.own) counted in
        record {
          good =
              ap not (eq-eqb (length s) f.size long)
              and ap not (eq-eqb (spare_of f s) 0 spare)
              and none_both (field_rules (fields_in s)) (f.rules (own_of f s)) ten_accepted (subst (λ (vs : List ℕ). NoneHolds (f.rules vs)) (sym own_back) good);
          card = card_back;
          further = own_back;
        }

  -- what is written reads back
  pub form_reads_back : (c : Card) (own out : List ℕ) (r : Written) (out' : List ℕ) (k : ℕ) → FitsKind c.value → length own ≡ length f.own
      → Writes (first (form_write_rules f c own out)) (form_bytes f c own) out r out' → r ≡ Ok k → Reads f (take k out') c own
  form_reads_back c own out r out' k fits counted w e =
      let p = wrote_front _ (form_bytes f c own) out r out' k w e in
      let more = f.rules own ++ (16 when too_small f.size out ∷ []) in
      let none = none_append (card_rules c) more (none_first (form_write_rules f c own out) (numbered_append (f.rules own) (16 when too_small f.size out ∷ []) (law.numbers own) tt) p.0) in
      let good = none_append (f.rules own) (16 when too_small f.size out ∷ []) none.1 in
      subst (λ (x : List ℕ). Reads f x c own) (sym p.1) (form_read own counted good.0 c fits none.0)

  -- ---- read, then written
  module _ (s : List ℕ) (none : NoneHolds (form_rules f s)) where
    ten : NoneHolds (field_rules (fields_in s))
    ten = (none_append (field_rules (fields_in s)) (f.rules (own_of f s)) none.1.1).0

    -- what was read is not refused
    pub form_written : NoneHolds (card_rules (card_of s))
    form_written =
        let below : field_of 1 s < 32 = field_fits s 1 in
        let some : field_of 1 s + 1 ≡ 0 → ⊥ = λ e. omega arith in
        ten.0
        and ten.1.0
        and neither_or (eqb (channel_number s) 0) (ltb 32 (channel_number s)) (ne_eqb (channel_number s) 0 some) (le-ltb 32 (channel_number s) (omega arith))
        and tt

    fields_again : fields (card_of s) ≡ unpacked field_widths s
    unfolding field_of values_from
    fields_again =
        let channel : field_of 1 s + 1 - 1 ≡ field_of 1 s = omega arith in
        let kind = ap number_of (kind_of_made (value_kind s) (value_bits s)) ∙ kind_number (field_of 8 s) (field_fits s 8) in
        let bits = bits_of_made (value_kind s) (value_bits s) ten.1.1.0 in
        rw (channel, kind, bits)

    after_again : own_of f s ++ (0 ∷ []) ≡ after_fields f s
    unfolding after_fields values_from
    after_again =
        let spare : spare_of f s ≡ 0 = eqb-true (spare_of f s) 0 (not-false (eqb (spare_of f s) 0) none.1.0) in
        let long = length_values (f.own ++ (f.spare ∷ [])) 131 (bits_in s) ∙ length-append f.own (f.spare ∷ []) in
        ap (λ (n : ℕ). own_of f s ++ (n ∷ [])) (sym spare) ∙ first_and_last (after_fields f s) (length f.own) long

    -- and gives the same bytes
    pub form_again : Bytes s → form_bytes f (card_of s) (own_of f s) ≡ s
    unfolding after_fields values_from
    form_again bytes =
        let long : length s ≡ f.size = eqb-true (length s) f.size (not-false (eqb (length s) f.size) none.0) in
        ap (packed f.size (widths_of f)) (ap₂ (λ (x y : List ℕ). x ++ y) fields_again after_again)
        ∙ ap (λ (k : ℕ). packed k (widths_of f) (unpacked (widths_of f) s)) (sym long)
        ∙ packed_writes_again (widths_of f) s bytes (law.filled ∙ ap (λ (k : ℕ). 8 * k) (sym long))

  -- what is read, written again, is the same bytes
  pub form_writes_again : (s : List ℕ) (c : Card) (own out : List ℕ) (r : Written) (out' : List ℕ) → Bytes s → Reads f s c own → f.size ≤ length out
      → Writes (first (form_write_rules f c own out)) (form_bytes f c own) out r out' → (r ≡ Ok f.size) × (out' ≡ over out s)
  form_writes_again s c own out r out' bytes read room w =
      let same : form_bytes f c own ≡ s = ap₂ (form_bytes f) (sym read.card) (sym read.further) ∙ form_again s read.good bytes in
      let cards = subst (λ (x : Card). NoneHolds (card_rules x)) read.card (form_written s read.good) in
      let owns = subst (λ (vs : List ℕ). NoneHolds (f.rules vs)) read.further (none_append (field_rules (fields_in s)) (f.rules (own_of f s)) read.good.1.1).1 in
      let none = none_both (card_rules c) (f.rules own ++ (16 when too_small f.size out ∷ [])) cards (none_both (f.rules own) (16 when too_small f.size out ∷ []) owns (le-ltb (length out) f.size room, tt)) in
      let p = wrote_all (first (form_write_rules f c own out)) (form_bytes f c own) out r out' w (first_none (form_write_rules f c own out) none) in
      (p.0 ∙ ap Ok (length_bytes_of f.size (joined (widths_of f) (fields c ++ (own ++ (0 ∷ []))))), p.1 ∙ ap (over out) same)
