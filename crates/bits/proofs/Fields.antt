-- What is packed is read again, and bytes that are read are packed again: once over the list of widths.
-- Assumes nothing.
use mathlib.Core.Path.{◌≡◌, refl, sym, ap, ap₂, ◌∙◌}
use mathlib.Core.List.{List, [], ◌∷◌, ◌++◌, append_assoc, append-nil}
use Prim.Native.Nat.{ℕ, zero, suc, ◌+◌, ◌*◌, ◌^◌, ◌≤◌, ◌<◌}
use native.Mathlib.Nat.{add-zero, add_assoc, le_of_eq}
use native.Mathlib.Omega.{arith}
use lib.ListN.{length, get_or, take, drop, length-append}
use lib.Seq.{take_all}
use Rattle.wire.specs.Numbers.{number, field}
use Rattle.wire.specs.Each.{Each, Bytes}
use Rattle.wire.proofs.Each.{each_append}
use Rattle.wire.proofs.Fields.{length_field, field_take, field_at, field_append}
use Rattle.bits.specs.Bits.{Bit, bits, of_bits, bits_in, bytes_of}
use Rattle.bits.specs.Fields.{joined, packed, values_from, unpacked, total, Fit}
use Rattle.bits.proofs.Bits.{length_bits, bits_below, of_bits_bits, bits_of_bits, bits_in_below, length_bits_in, bits_in_bytes_of, bytes_of_bits_in, field_below, field_lt}

pub length_joined : (ws vs : List ℕ) → length (joined ws vs) ≡ total ws
unfolding joined total
length_joined [] vs = refl
length_joined (w ∷ ws) vs =
    length-append (bits w (get_or vs 0 0)) (joined ws (drop 1 vs))
    ∙ ap₂ (λ (x y : ℕ). x + y) (length_bits w (get_or vs 0 0)) (length_joined ws (drop 1 vs))

pub joined_below : (ws vs : List ℕ) → Each Bit (joined ws vs)
unfolding joined
joined_below [] vs = tt
joined_below (w ∷ ws) vs =
    each_append Bit (bits w (get_or vs 0 0)) (joined ws (drop 1 vs)) (bits_below w (get_or vs 0 0)) (joined_below ws (drop 1 vs))

-- fields after fields
pub joined_append : (ws vs ws' vs' : List ℕ) → length ws ≡ length vs → joined (ws ++ ws') (vs ++ vs') ≡ joined ws vs ++ joined ws' vs'
unfolding joined
joined_append [] [] ws' vs' e = refl
joined_append [] (v ∷ vs) ws' vs' e = absurd (omega arith)
joined_append (w ∷ ws) [] ws' vs' e = absurd (omega arith)
joined_append (w ∷ ws) (v ∷ vs) ws' vs' e =
    ap (λ (l : List ℕ). bits w v ++ l) (joined_append ws vs ws' vs' (omega arith)) ∙ sym (append_assoc (bits w v) (joined ws vs) (joined ws' vs'))

-- the value of one field
pub value_of_lem : (ws : List ℕ) (at k : ℕ) (bs : List ℕ) → get_or (values_from ws at bs) k 0 ≡ of_bits (field bs (at + total (take k ws)) (get_or ws k 0))
unfolding values_from total of_bits number field
value_of_lem [] at k bs = refl
value_of_lem (w ∷ ws) at zero bs = ap (λ (n : ℕ). of_bits (field bs n w)) (sym (add-zero at))
value_of_lem (w ∷ ws) at (suc k) bs =
    value_of_lem ws (at + w) k bs ∙ ap (λ (n : ℕ). of_bits (field bs n (get_or ws k 0))) (add_assoc at w (total (take k ws)))

-- it fits its width
pub value_fits : (ws s : List ℕ) (k : ℕ) → get_or (unpacked ws s) k 0 < 2 ^ get_or ws k 0
value_fits ws s k = rw (value_of_lem ws 0 k (bits_in s)) (field_lt (bits_in s) _ (get_or ws k 0) (bits_in_below s))

-- joined values, between p and r, read again
values_joined : (ws vs p r : List ℕ) (at : ℕ) → length p ≡ at → Fit ws vs → values_from ws at (p ++ (joined ws vs ++ r)) ≡ vs
unfolding joined values_from
values_joined [] [] p r at e fit = refl
values_joined [] (v ∷ vs) p r at e fit = absurd fit
values_joined (w ∷ ws) [] p r at e fit = absurd fit
values_joined (w ∷ ws) (v ∷ vs) p r at e fit =
    let more = joined ws vs in
    let whole : p ++ ((bits w v ++ more) ++ r) ≡ p ++ (bits w v ++ (more ++ r)) = ap (λ (l : List ℕ). p ++ l) (append_assoc (bits w v) more r) in
    let longer : length (p ++ bits w v) ≡ at + w = length-append p (bits w v) ∙ ap₂ (λ (x y : ℕ). x + y) e (length_bits w v) in
    ap₂ (λ (x : ℕ) (xs : List ℕ). x ∷ xs)
    (ap (λ (l : List ℕ). of_bits (field l at w)) whole
    ∙ ap of_bits (field_at p (bits w v) (more ++ r) at w e (length_bits w v))
    ∙ of_bits_bits w v fit.0)
    (ap (values_from ws (at + w)) (whole ∙ sym (append_assoc p (bits w v) (more ++ r)))
    ∙ values_joined ws vs (p ++ bits w v) r (at + w) longer fit.1)

-- values that were read, joined again
joined_values : (ws : List ℕ) (at : ℕ) (bs : List ℕ) → Each Bit bs → joined ws (values_from ws at bs) ≡ field bs at (total ws)
unfolding joined values_from total field
joined_values [] at bs h = refl
joined_values (w ∷ ws) at bs h =
    ap₂ (λ (x y : List ℕ). x ++ y) (bits_of_bits w (field bs at w) (field_below bs at w h) (length_field bs at w)) (joined_values ws (at + w) bs h)
    ∙ sym (field_append bs at w (total ws))

-- ---- the two round trips

-- values that fit, packed into bytes that their widths fill
pub packed_reads_back : (n : ℕ) (ws vs : List ℕ) → Fit ws vs → total ws ≡ 8 * n → unpacked ws (packed n ws vs) ≡ vs
packed_reads_back n ws vs fit e =
    ap (values_from ws 0) (bits_in_bytes_of n (joined ws vs) (joined_below ws vs) (length_joined ws vs ∙ e) ∙ sym (append-nil (joined ws vs)))
    ∙ values_joined ws vs [] [] 0 refl fit

-- bytes that the widths fill
pub packed_writes_again : (ws s : List ℕ) → Bytes s → total ws ≡ 8 * length s → packed (length s) ws (unpacked ws s) ≡ s
packed_writes_again ws s h e =
    let bs = bits_in s in
    let l : length bs ≡ total ws = length_bits_in s ∙ sym e in
    let within : 0 + total ws ≤ length bs = omega arith in
    ap (bytes_of (length s))
    (joined_values ws 0 bs (bits_in_below s)
    ∙ field_take bs 0 (total ws) within
    ∙ take_all (total ws) bs (le_of_eq l))
    ∙ bytes_of_bits_in s h
