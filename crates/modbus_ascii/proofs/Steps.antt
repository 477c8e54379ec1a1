-- What the loops take in a turn, and the stores of the writers.
-- Assumes nothing.
use mathlib.Core.Path.{◌≡◌, refl, sym, ap, ap₂, ◌∙◌}
use mathlib.Core.List.{List, [], ◌∷◌, ◌++◌, append_assoc, append-nil}
use Prim.Native.Nat.{ℕ, suc, ◌+◌, ◌*◌, ◌/◌, ◌%◌, ◌<◌, ◌≤◌}
use native.Mathlib.Nat.{zero-add}
use native.Mathlib.Numerals.{add-one}
use native.Mathlib.Omega.{arith}
use lib.ListN.{length, get_or, set, take, drop, drop_of_length-le, length-drop, length-take, length-append}
use lib.Seq.{sets, get_or-drop, take-suc, take_all, length-take-le}
use Rattle.checksum.specs.Sums.{total, sum_from, lrc}
use Rattle.wire.specs.Digits.{digit}
use Rattle.wire.proofs.Writing.{sets_append, sets_more, sets_over, sets_then}
use Rattle.wire.specs.Numbers.{over}
use Rattle.modbus.specs.Envelope.{message, content_of, bytes_of}
use Rattle.modbus_ascii.specs.Hex.{hex, of_hex}
use Rattle.modbus_ascii.specs.Ascii.{ascii, colon, carriage_return, line_feed}
use Rattle.modbus_ascii.proofs.Pairs.{length_hex, hex_append, length_of_hex}

-- ---- reading
pub data_turn : (out s : List ℕ) (i b : ℕ) → i + 2 < length s / 2 → b ≡ get_or (of_hex s) (i + 2) 0
    → set (sets out 0 (take i (drop 2 (of_hex s)))) i b ≡ sets out 0 (take (i + 1) (drop 2 (of_hex s)))
data_turn out s i b h e =
    let D = drop 2 (of_hex s) in
    let two : 2 + i ≡ i + 2 = omega arith in
    let same : get_or (of_hex s) (i + 2) 0 ≡ get_or D i 0 = sym (get_or-drop 2 (of_hex s) i 0 ∙ ap (λ (k : ℕ). get_or (of_hex s) k 0) two) in
    let within : i < length D = rw length-drop (omega (arith, length_of_hex s)) in
    ap₂ (λ (k x : ℕ). set (sets out 0 (take i D)) k x) (sym (zero-add i)) (e ∙ same) ∙ sets_more out 0 D i within

-- what is stored in the first n places, where no more is, is stored in all
pub front_stored : (out bs : List ℕ) (n : ℕ) → length bs ≡ n → n ≤ length out → sets (take n out) 0 bs ++ drop n out ≡ sets out 0 bs
unfolding over
front_stored out bs n e h =
    let long : length (take n out) ≡ n = length-take-le n out h in
    let none : drop (length bs) (take n out) ≡ [] = drop_of_length-le (take n out) (omega arith) in
    ap (λ (l : List ℕ). l ++ drop n out) (sets_over (take n out) bs (omega arith) ∙ ap (λ (l : List ℕ). bs ++ l) none ∙ append-nil bs)
    ∙ ap (λ (k : ℕ). bs ++ drop k out) (sym e)
    ∙ sym (sets_over out bs (omega arith))

-- ---- writing
pub stored_byte : (out : List ℕ) (at b x y : ℕ) → x ≡ digit (b / 16) → y ≡ digit (b % 16) → set (set out at x) (at + 1) y ≡ sets out at (hex (b ∷ []))
unfolding hex
stored_byte out at b x y ex ey = ap (λ (k : ℕ). set (set out at x) k y) (add-one at) ∙ ap₂ (λ (p q : ℕ). set (set out at p) (suc at) q) ex ey

pub hex_turn : (out src : List ℕ) (at i place : ℕ) → i < length src → place ≡ at + 2 * i
    → sets (sets out at (hex (take i src))) place (hex (get_or src i 0 ∷ [])) ≡ sets out at (hex (take (i + 1) src))
hex_turn out src at i place h e =
    let long : length (hex (take i src)) ≡ 2 * i = length_hex (take i src) ∙ ap (λ (k : ℕ). 2 * k) (length-take-le i src (omega arith)) in
    ap (λ (k : ℕ). sets (sets out at (hex (take i src))) k (hex (get_or src i 0 ∷ []))) (e ∙ ap (λ (k : ℕ). at + k) (sym long))
    ∙ sets_append out at (hex (take i src)) (hex (get_or src i 0 ∷ []))
    ∙ ap (sets out at) (sym (hex_append (take i src) (get_or src i 0 ∷ [])) ∙ ap hex (sym (take-suc src i 0 h) ∙ ap (λ (k : ℕ). take k src) (sym (add-one i))))

pub sum_content : (a f : ℕ) (d : List ℕ) → sum_from ((a + f) % 256) d ≡ sum_from 0 (content_of (message a f d))
unfolding total
sum_content a f d = omega arith

pub length_ascii : (a f : ℕ) (d : List ℕ) → length (bytes_of ascii (message a f d)) ≡ 9 + 2 * length d
unfolding bytes_of hex
length_ascii a f d = simp (length-append, length_hex) (omega arith)

-- colon, address, function; data; LRC and the end marks
pub stored_ascii : (out : List ℕ) (a f : ℕ) (d : List ℕ)
    → sets (sets (sets (sets (set out 0 colon) 1 (hex (a ∷ []))) 3 (hex (f ∷ []))) 5 (hex d)) (5 + 2 * length d) (hex (lrc (content_of (message a f d)) ∷ []) ++ (carriage_return ∷ line_feed ∷ []))
    ≡ sets out 0 (bytes_of ascii (message a f d))
unfolding bytes_of hex
stored_ascii out a f d =
    let bs : List ℕ = colon ∷ hex (a ∷ f ∷ []) in
    let ending : List ℕ = carriage_return ∷ line_feed ∷ [] in
    let closed = hex (lrc (content_of (message a f d)) ∷ []) in
    let long : length (bs ++ hex d) ≡ 5 + 2 * length d = simp length_hex (omega arith) in
    let regroup : bs ++ hex d ++ (closed ++ ending) ≡ bytes_of ascii (message a f d) =
    ap (λ (l : List ℕ). bs ++ l) (sym (append_assoc (hex d) closed ending) ∙ ap (λ (l : List ℕ). l ++ ending) (sym (hex_append d (lrc (content_of (message a f d)) ∷ [])))) in
    ap (λ (l : List ℕ). sets l (5 + 2 * length d) (closed ++ ending)) (sets_then out bs (hex d) 5 refl)
    ∙ sets_then out (bs ++ hex d) (closed ++ ending) (5 + 2 * length d) long
    ∙ ap (sets out 0) regroup

-- ---- what an envelope needs is counted for 253 bytes of data at most: more is refused by 17 before the room is judged
pub at_most_253 : (d : List ℕ) → length (take 253 d) ≤ 253
at_most_253 d = omega (arith, length-take 253 d)

pub counted_whole : (d : List ℕ) (n : ℕ) → n ≡ 9 + 2 * length (take 253 d) → length d ≤ 252 → n ≡ 9 + 2 * length d
counted_whole d n en h = en ∙ ap (λ (l : List ℕ). 9 + 2 * length l) (take_all 253 d (omega arith))
