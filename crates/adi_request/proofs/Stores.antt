-- The stores of a request, one after another, are its bytes.
-- Assumes nothing.
use mathlib.Core.Path.{◌≡◌, refl, sym, ap, ap₂, ◌∙◌}
use mathlib.Core.List.{List, [], ◌∷◌}
use Prim.Native.Nat.{ℕ, ◌+◌, ◌-◌, ◌*◌, ◌≤◌, ◌<◌}
use native.Mathlib.Numerals.{add-one}
use native.Mathlib.Omega.{arith}
use lib.ListN.{length, get_or, set, drop, length-append, length-map, drop_of_length-le}
use lib.Seq.{sets, drop-cons}
use borrow.Rule.Slice.PartMut.{put_mid}
use Rattle.wire.specs.Numbers.{digits, be}
use Rattle.wire.proofs.Writing.{put_part, sets_append}
use Rattle.adi_request.specs.Layout.{group_bytes, body_bytes, request_bytes}
use Rattle.adi_request.specs.Writing.{given_by, given}
use Rattle.adi_request.specs.declared.Asked.{Asked}

length_group : (a : Asked) → length (group_bytes a) ≡ 7
unfolding group_bytes be digits
length_group a = refl

-- a group's bytes, copied to their place
pub group_put : (out new : List ℕ) (at : ℕ) (a : Asked) → new ≡ group_bytes a → at + 7 ≤ length out → put_mid at (at + 7 - at) out new ≡ sets out at (group_bytes a)
group_put out new at a e h =
    let n = length_group a in
    ap (λ (k : ℕ). put_mid at (at + k - at) out new) (sym n) ∙ put_part out at (group_bytes a) new e (omega (arith, n))

pub length_body : (asks : List Asked) → length (body_bytes asks) ≡ length asks * 7
unfolding body_bytes
length_body [] = refl
length_body (a ∷ asks) = length-append (group_bytes a) (body_bytes asks) ∙ omega (arith, length_group a, length_body asks)

pub length_request : (asks : List Asked) → length (request_bytes asks) ≡ length asks * 7 + 2
unfolding request_bytes
length_request asks = omega (arith, length_body asks)

-- a turn of the loop: what is left to store, from here on
module _ (gs : List (List ℕ)) (i : ℕ) where
  pub given_next : i < length gs → given (drop i gs) ≡ given_by (get_or gs i []) ∷ given (drop (i + 1) gs)
  given_next h = ap given (drop-cons gs i [] h) ∙ ap (λ (k : ℕ). given_by (get_or gs i []) ∷ given (drop k gs)) (sym (add-one i))

  pub store_turn : (out out' : List ℕ) (at : ℕ) → i < length gs → out' ≡ sets out at (group_bytes (given_by (get_or gs i [])))
      → sets out' (at + 7) (body_bytes (given (drop (i + 1) gs))) ≡ sets out at (body_bytes (given (drop i gs)))
  unfolding body_bytes
  store_turn out out' at h e =
      let g = given_by (get_or gs i []) in
      let rest = body_bytes (given (drop (i + 1) gs)) in
      ap₂ (λ (o : List ℕ) (k : ℕ). sets o (at + k) rest) e (sym (length_group g))
      ∙ sets_append out at (group_bytes g) rest
      ∙ ap (λ (l : List Asked). sets out at (body_bytes l)) (sym (given_next h))

  pub store_end : (out : List ℕ) (at : ℕ) → length gs ≤ i → out ≡ sets out at (body_bytes (given (drop i gs)))
  unfolding body_bytes
  store_end out at h = sym (ap (λ (l : List (List ℕ)). sets out at (body_bytes (given l))) (drop_of_length-le gs {i = i} h))

-- function and byte count, then the groups
pub head_stored : (gs : List (List ℕ)) (out : List ℕ)
    → sets (set (set out 0 0x14) 1 (length gs * 7)) 2 (body_bytes (given gs)) ≡ sets out 0 (request_bytes (given gs))
unfolding request_bytes
head_stored gs out = ap (λ (n : ℕ). sets (set (set out 0 0x14) 1 (n * 7)) 2 (body_bytes (given gs))) (sym (length-map gs given_by))

pub length_given : (gs : List (List ℕ)) → length gs * 7 + 2 ≡ length (request_bytes (given gs))
length_given gs = ap (λ (n : ℕ). n * 7 + 2) (sym (length-map gs given_by)) ∙ sym (length_request (given gs))
