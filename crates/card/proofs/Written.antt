-- How long a card is, and what writing it leaves behind: of any form, sixteen bytes and those after them.
-- Assumes nothing.
use mathlib.Core.Path.{◌≡◌, refl, sym, ap, ap₂, ◌∙◌}
use mathlib.Core.Bool.{Bool, false}
use mathlib.Core.List.{List, [], ◌∷◌, ◌++◌}
use Prim.Native.Nat.{ℕ, zero, suc, ◌+◌, ◌-◌, ◌*◌, ◌%◌, ◌^◌, ◌≤◌}
use native.Mathlib.Nat.{zero-add, suc-add}
use Rattle.std.specs.Int.{bytes_high_first}
use native.Mathlib.Omega.{arith}
use lib.ListN.{length, drop}
use lib.Seq.{sets}
use borrow.Author.Tests.{ltb-false}
use Rattle.wire.specs.Numbers.{be, field, over}
use Rattle.wire.proofs.Widths.{be_bytes}
use Rattle.wire.proofs.Writing.{sets_over}
use Rattle.bits.specs.Bits.{of_bits, bytes_of}
use Rattle.bits.specs.Fields.{joined, packed}
use Rattle.bits.proofs.Bits.{length_bytes_of}
use Rattle.bits.proofs.Fields.{joined_below}
use Rattle.bits.proofs.Write.{bytes_before, bytes_then}
use Rattle.card.specs.Layout.{fields, Form, widths_of, card_form, card_bytes}
use Rattle.card.specs.Writing.{too_small}
use Rattle.card.specs.declared.Card.{Card}

pub length_card : (c : Card) → length (card_bytes c) ≡ 17
unfolding card_bytes
length_card c = length_bytes_of 17 (joined (widths_of card_form) (fields c ++ (0 ∷ [])))

-- n bytes more, from the number of the bits before their end
bytes_more : (ws vs out one two : List ℕ) (i n v : ℕ) → n ≤ 8 → 64 ≤ 8 * i + 8 * n → v ≡ of_bits (field (joined ws vs) 0 (8 * i + 8 * n)) % 2 ^ 64
    → one ≡ sets out 0 (packed i ws vs) → two ≡ sets one i (be n v) → two ≡ sets out 0 (packed (i + n) ws vs)
bytes_more ws vs out one two i n v few many ev e₁ e₂ =
    e₂
    ∙ ap₂ (λ (o l : List ℕ). sets o i l) e₁ (bytes_before (joined ws vs) (joined_below ws vs) i n v few many ev)
    ∙ bytes_then out (joined ws vs) i n

-- the lowest bytes of a number, the highest of them first
low_of_high : (k n v : ℕ) → drop k (bytes_high_first (k + n) v) ≡ bytes_high_first n v
low_of_high zero n v = ap (λ (m : ℕ). bytes_high_first m v) (zero-add n)
low_of_high (suc k) n v = ap (λ (m : ℕ). drop (suc k) (bytes_high_first m v)) (suc-add k n) ∙ low_of_high k n v

-- two words, and after them what is left of the form's bytes: the last of a third word's
pub form_stored : (f : Form) (size : ℕ) → size ≡ f.size → 16 ≤ f.size → f.size ≤ 24 → (ws vs' vs out one two three : List ℕ) (v w u : ℕ) → ws ≡ widths_of f → vs' ≡ vs
    → v ≡ of_bits (field (joined ws vs') 0 64) % 2 ^ 64 → one ≡ sets out 0 (be 8 v)
    → w ≡ of_bits (field (joined ws vs') 0 128) % 2 ^ 64 → two ≡ sets one 8 (be 8 w)
    → u ≡ of_bits (field (joined ws vs') 0 (8 * size)) % 2 ^ 64 → three ≡ sets two 16 (drop (24 - size) (bytes_high_first 8 u))
    → three ≡ sets out 0 (packed f.size (widths_of f) vs)
unfolding bytes_of
form_stored f size es least most ws vs' vs out one two three v w u ews evs ev e₁ ew e₂ eu e₃ =
    let n = size - 16 in
    let cut : 24 - size + n ≡ 8 = omega arith in
    let all : 16 + n ≡ f.size = omega arith in
    let bits : 8 * size ≡ 8 * 16 + 8 * n = omega arith in
    let low : drop (24 - size) (bytes_high_first 8 u) ≡ be n u = ap (λ (m : ℕ). drop (24 - size) (bytes_high_first m u)) (sym cut) ∙ low_of_high (24 - size) n u ∙ be_bytes n u in
    let first = bytes_more ws vs' out out one 0 8 v (omega arith) (omega arith) ev refl e₁ in
    let second = bytes_more ws vs' out one two 8 8 w (omega arith) (omega arith) ew first e₂ in
    bytes_more ws vs' out two three 16 n u (omega arith) (omega arith) (eu ∙ ap (λ (m : ℕ). of_bits (field (joined ws vs') 0 m) % 2 ^ 64) bits) second (e₃ ∙ ap (sets two 16) low)
    ∙ ap (λ (m : ℕ). sets out 0 (packed m ws vs')) all
    ∙ ap₂ (λ (x y : List ℕ). sets out 0 (packed f.size x y)) ews evs

-- over an output that is long enough
pub form_over : (size : ℕ) (bs out : List ℕ) (r : Bool) → length bs ≡ size → r ≡ too_small size out → r ≡ false → sets out 0 bs ≡ over out bs
form_over size bs out r long e f =
    let room : size ≤ length out = ltb-false (length out) size (sym e ∙ f) in
    sets_over out bs (rw long room)
