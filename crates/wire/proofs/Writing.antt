-- Runs of stores: `sets out at bs` is `out` with `bs` stored from `at` on. One run after another is one run.
-- Assumes nothing.
use mathlib.Core.Path.{◌≡◌, refl, sym, ap, ap₂, ◌∙◌}
use mathlib.Core.List.{List, [], ◌∷◌, ◌++◌, append_assoc}
use Prim.Native.Nat.{ℕ, zero, suc, ◌+◌, ◌-◌, ◌≤◌, ◌<◌}
use native.Mathlib.Nat.{min-le_left, add-zero, add-suc, suc-add, zero-add}
use native.Mathlib.Numerals.{add-one}
use native.Mathlib.Omega.{arith}
use mathlib.Core.Bool.{Bool, true, false}
use lib.Dec.{ltb}
use borrow.Author.Tests.{ltb-true, ltb-false}
use lib.ListN.{length, take, drop, get_or, set, replicate, length-set, length-take}
use borrow.Rule.Slice.PartMut.{put_mid}
use lib.Seq.{drop-drop, sets, sets-eq, set_out, take-nil, take-suc, length-take-le, take-append_seam}
use Rattle.wire.specs.Numbers.{field, over}
use Rattle.wire.proofs.Turns.{field_of_rest}

-- bs, and after them cs
pub sets_append : (out : List ℕ) (at : ℕ) (bs cs : List ℕ) → sets (sets out at bs) (at + length bs) cs ≡ sets out at (bs ++ cs)
sets_append out at [] cs = ap (λ (k : ℕ). sets out k cs) (add-zero at)
sets_append out at (b ∷ bs) cs =
    ap (λ (k : ℕ). sets (sets (set out at b) (suc at) bs) k cs) (add-suc at (length bs) ∙ sym (suc-add at (length bs)))
    ∙ sets_append (set out at b) (suc at) bs cs

-- a turn of the loop that stores src: one byte more
pub sets_more : (out : List ℕ) (at : ℕ) (src : List ℕ) (i : ℕ) → i < length src
    → set (sets out at (take i src)) (at + i) (get_or src i 0) ≡ sets out at (take (i + 1) src)
sets_more out at src i h =
    ap (λ (k : ℕ). set (sets out at (take i src)) (at + k) (get_or src i 0)) (sym (length-take-le i src (omega arith)))
    ∙ sets_append out at (take i src) (get_or src i 0 ∷ [])
    ∙ ap (sets out at) (sym (take-suc src i 0 h) ∙ ap (λ (k : ℕ). take k src) (sym (add-one i)))

-- what the code stores at once, by a part of out that it lends: part, which has room
pub put_part : (out : List ℕ) (at : ℕ) (part new : List ℕ) → new ≡ part → at + length part ≤ length out → put_mid at (at + length part - at) out new ≡ sets out at part
put_part out at part new e room =
    let n : at + length part - at ≡ length part = omega arith in
    ap₂ (λ (j : ℕ) (l : List ℕ). put_mid at j out l) n e
    ∙ ap (λ (l : List ℕ). take at out ++ (part ++ l)) (drop-drop (length part) at out)
    ∙ sym (append_assoc (take at out) part (drop (at + length part) out))
    ∙ sym (sets-eq part out at room)

-- a run of stores from the front is what is written over the front
pub sets_over : (out bs : List ℕ) → length bs ≤ length out → sets out 0 bs ≡ over out bs
unfolding over
sets_over out bs h =
    sets-eq bs out 0 (omega arith)
    ∙ ap (λ (k : ℕ). bs ++ drop k out) (zero-add (length bs))

-- the front of it
pub take_sets : (out bs : List ℕ) → length bs ≤ length out → take (length bs) (sets out 0 bs) ≡ bs
unfolding over
take_sets out bs h = ap (take (length bs)) (sets_over out bs h) ∙ take-append_seam bs (drop (length bs) out)

-- bs from the front, and cs from where they end
pub sets_then : (out bs cs : List ℕ) (k : ℕ) → length bs ≡ k → sets (sets out 0 bs) k cs ≡ sets out 0 (bs ++ cs)
sets_then out bs cs k e =
    ap (λ (j : ℕ). sets (sets out 0 bs) j cs) (sym e ∙ sym (zero-add (length bs)))
    ∙ sets_append out 0 bs cs

-- stores past the end store nothing, so only what has room is stored
pub sets_out : (out : List ℕ) (at : ℕ) (bs : List ℕ) → length out ≤ at → sets out at bs ≡ out
sets_out out at [] h = refl
sets_out out at (b ∷ bs) h =
    let past : length (set out at b) ≤ suc at = rw length-set (omega arith) in
    sets_out (set out at b) (suc at) bs past ∙ set_out out at b h

pub sets_room : (bs out : List ℕ) (at : ℕ) → sets out at (take (length out - at) bs) ≡ sets out at bs
sets_room [] out at = ap (sets out at) (take-nil (length out - at))
sets_room (b ∷ bs) out at = go (ltb at (length out)) refl (sets_room bs (set out at b) (suc at))
  where
    go : (t : Bool) → ltb at (length out) ≡ t → sets (set out at b) (suc at) (take (length (set out at b) - suc at) bs) ≡ sets (set out at b) (suc at) bs
        → sets out at (take (length out - at) (b ∷ bs)) ≡ sets out at (b ∷ bs)
    go true e more =
        let h : at < length out = ltb-true at (length out) e in
        let n : length out - at ≡ suc (length out - suc at) = omega arith in
        ap (λ (k : ℕ). sets out at (take k (b ∷ bs))) n
        ∙ ap (λ (k : ℕ). sets (set out at b) (suc at) (take (k - suc at) bs)) (sym (length-set out at b))
        ∙ more
    go false e more =
        let h : length out ≤ at = ltb-false at (length out) e in
        sets_out out at (take (length out - at) (b ∷ bs)) h ∙ sym (sets_out out at (b ∷ bs) h)

-- the part of src that has room, stored whole
pub sets_part : (out : List ℕ) (at : ℕ) (src part : List ℕ) (n : ℕ) → part ≡ take n src → n ≡ length out - at → sets out at part ≡ sets out at src
sets_part out at src part n e en = ap (sets out at) (e ∙ ap (λ (k : ℕ). take k src) en) ∙ sets_room src out at

pub part_fits : (src part : List ℕ) (n m : ℕ) → part ≡ take n src → n ≡ m → length part ≤ m
part_fits src part n m e en = omega (arith, ap length e, length-take n src, min-le_left n (length src))

sets_cons : (x : ℕ) (xs : List ℕ) (at : ℕ) (bs : List ℕ) → sets (x ∷ xs) (suc at) bs ≡ x ∷ sets xs at bs
sets_cons x xs at [] = refl
sets_cons x xs at (b ∷ bs) = sets_cons x (set xs at b) (suc at) bs

field_none : (at w : ℕ) → replicate w 0 ≡ field [] at w
unfolding field
field_none at zero = refl
field_none at (suc w) = ap (λ (l : List ℕ). 0 ∷ l) (field_none (at + 1) w)

-- over w zeros: the first w bytes, and zeros past their end
pub over_zeros : (w : ℕ) (l : List ℕ) → sets (replicate w 0) 0 l ≡ field l 0 w
unfolding field
over_zeros zero l = sets_out [] 0 l (omega arith)
over_zeros (suc w) [] = field_none 0 (suc w)
over_zeros (suc w) (x ∷ xs) =
    sets_cons x (replicate w 0) 0 xs ∙ ap (λ (l : List ℕ). x ∷ l) (over_zeros w xs ∙ field_of_rest (x ∷ xs) 1 w)
