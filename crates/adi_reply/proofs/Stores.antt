-- The stores of a reply, one after another, are its bytes.
-- Assumes nothing.
use mathlib.Core.Path.{◌≡◌, refl, sym, ap, ap₂, ◌∙◌}
use mathlib.Core.List.{List, [], ◌∷◌}
use Prim.Native.Nat.{ℕ, ◌+◌, ◌*◌, ◌≤◌, ◌<◌}
use native.Mathlib.Omega.{arith}
use lib.ListN.{length, get_or, set, take, drop, length-append, length-drop, drop_of_length-le}
use lib.Seq.{sets, length-take-le}
use Rattle.wire.proofs.Writing.{sets_append}
use Rattle.adi_reply.specs.Layout.{group_bytes, body_bytes, reply_bytes}
use Rattle.adi_reply.specs.Writing.{cut, total, count_for}
use Rattle.adi_reply.proofs.Judging.{next, total_next}

-- length and type, then the register bytes
pub group_stored : (out registers : List ℕ) (at n : ℕ) → n ≤ length registers
    → sets (sets out at (n ∷ 6 ∷ [])) (at + 2) (take n registers) ≡ sets out at (group_bytes (take n registers))
unfolding group_bytes
group_stored out registers at n h =
    sets_append out at (n ∷ 6 ∷ []) (take n registers) ∙ ap (λ (k : ℕ). sets out at (k ∷ 6 ∷ take n registers)) (sym (length-take-le n registers h))

-- how long they are
pub length_body : (ns registers : List ℕ) → total ns ≡ length registers → length (body_bytes (cut ns registers)) ≡ count_for ns
unfolding body_bytes group_bytes cut total
length_body [] registers e = refl
length_body (n ∷ ns) registers e =
    let d = length-drop n registers in
    let l : length (take n registers) ≡ n = length-take-le n registers (omega arith) in
    let more = length_body ns (drop n registers) (omega (arith, d)) in
    length-append (group_bytes (take n registers)) (body_bytes (cut ns (drop n registers))) ∙ omega (arith, d, l, more)

module _ (ns registers : List ℕ) (all : total ns ≡ length registers) where
  count : length ns * 2 + length registers ≡ length (body_bytes (cut ns registers))
  count = ap (λ (k : ℕ). length ns * 2 + k) (sym all) ∙ sym (length_body ns registers all)

  pub length_reply : length ns * 2 + length registers + 2 ≡ length (reply_bytes (cut ns registers))
  unfolding reply_bytes
  length_reply = omega (arith, count)

  -- function and byte count, then the groups
  pub head_stored : (out : List ℕ)
      → sets (set (set out 0 0x14) 1 (length ns * 2 + length registers)) 2 (body_bytes (cut ns registers)) ≡ sets out 0 (reply_bytes (cut ns registers))
  unfolding reply_bytes
  head_stored out = ap (λ (k : ℕ). sets (set (set out 0 0x14) 1 k) 2 (body_bytes (cut ns registers))) count

-- a turn of the loop: what is left to store, from here on
module _ (ns left : List ℕ) (i : ℕ) (h : i < length ns) (all : total (drop i ns) ≡ length left) where
  abbrev n : ℕ
  n = get_or ns i 0

  pub group_within : n ≤ length left
  group_within = omega (arith, all, total_next ns i h)

  pub left_next : total (drop (i + 1) ns) ≡ length (drop n left)
  left_next = omega (arith, all, total_next ns i h, length-drop n left)

  pub store_turn : (out : List ℕ) (at : ℕ)
      → sets (sets (sets out at (n ∷ 6 ∷ [])) (at + 2) (take n left)) (at + (n + 2)) (body_bytes (cut (drop (i + 1) ns) (drop n left)))
      ≡ sets out at (body_bytes (cut (drop i ns) left))
  unfolding body_bytes group_bytes cut
  store_turn out at =
      let part = group_bytes (take n left) in
      let rest = body_bytes (cut (drop (i + 1) ns) (drop n left)) in
      let l : length (take n left) ≡ n = length-take-le n left group_within in
      let to : at + (n + 2) ≡ at + length part = omega (arith, l) in
      ap₂ (λ (o : List ℕ) (k : ℕ). sets o k rest) (group_stored out left at n group_within) to
      ∙ sets_append out at part rest
      ∙ sym (ap (λ (l : List ℕ). sets out at (body_bytes (cut l left))) (next ns i h))

pub store_end : (ns registers out : List ℕ) (i at : ℕ) → length ns ≤ i → out ≡ sets out at (body_bytes (cut (drop i ns) registers))
unfolding body_bytes cut
store_end ns registers out i at h = sym (ap (λ (l : List ℕ). sets out at (body_bytes (cut l registers))) (drop_of_length-le ns {i = i} h))
