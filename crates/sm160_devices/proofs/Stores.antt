-- What the writer of a device line owes: its room, and its characters one after another.
-- Assumes nothing.
use mathlib.Core.Path.{◌≡◌, refl, sym, ap, ap₂, ◌∙◌}
use mathlib.Core.Bool.{Bool, true, false, not, cond, ◌||◌}
use mathlib.Core.List.{List, [], ◌∷◌, ◌++◌, append_assoc}
use Prim.Native.Nat.{ℕ, suc, ◌+◌, ◌≤◌, ◌<◌}
use native.Mathlib.Nat.{zero-add}
use native.Mathlib.Omega.{arith}
use lib.Dec.{ltb}
use lib.ListN.{length, set, length-append}
use lib.Seq.{sets}
use borrow.Author.Tests.{ltb-true, ltb-false, lt-ltb, le-ltb}
use Rattle.std.specs.Prelude.{Option, Some, None, is_some, SomeIff}
use Rattle.wire.specs.Digits.{ascii}
use Rattle.wire.specs.Refusal.{pick}
use Rattle.wire.specs.Numbers.{over}
use Rattle.wire.proofs.Writing.{sets_append, sets_then, sets_over}
use Rattle.sm160_text.specs.Text.{ends_text, run, text_end}
use Rattle.sm160_text.specs.Grammar.{device_list}
use Rattle.sm160_text.specs.Layout.{spelled, chosen, line_bytes, bad_text, attribute_bytes, device_bytes}
use Rattle.sm160_devices.specs.Writing.{no_room}

suc_ltb : (a b : ℕ) → ltb (suc a) (suc b) ≡ ltb a b
suc_ltb a b = go (ltb a b) refl
  where
    go : (x : Bool) → ltb a b ≡ x → ltb (suc a) (suc b) ≡ ltb a b
    go true w =
        let less : a < b = ltb-true a b w in
        lt-ltb (suc a) (suc b) (omega arith) ∙ sym w
    go false w =
        let most : b ≤ a = ltb-false a b w in
        le-ltb (suc a) (suc b) (omega arith) ∙ sym w

-- ---- a text that stops before its end has a quote or a line feed
stops : (t : List ℕ) → ltb (run t) (length t) ≡ bad_text t
unfolding run bad_text
stops [] = refl
stops (b ∷ bs) = go (ends_text b) (stops bs)
  where
    go : (x : Bool) → ltb (run bs) (length bs) ≡ bad_text bs → ltb (cond x 0 (suc (run bs))) (suc (length bs)) ≡ (x || bad_text bs)
    go true more = lt-ltb 0 (suc (length bs)) (omega arith)
    go false more = suc_ltb (run bs) (length bs) ∙ more

pub bad_text_as : (t : List ℕ) (e : ℕ) → e ≡ text_end t 0 → ltb e (length t) ≡ bad_text t
unfolding text_end
bad_text_as t e q = ap (λ (n : ℕ). ltb n (length t)) (q ∙ zero-add (run t)) ∙ stops t

-- ---- an attribute: its name and a quote, its text, a quote
abbrev name : ℕ → List ℕ
name c = 32 ∷ c ∷ 61 ∷ 34 ∷ []

attribute_as : (c : ℕ) (t : List ℕ) → attribute_bytes c t ≡ name c ++ (t ++ (34 ∷ []))
unfolding attribute_bytes spelled ascii
attribute_as c t = refl

attribute_length : (c : ℕ) (t : List ℕ) → length (attribute_bytes c t) ≡ 5 + length t
attribute_length c t = ap length (attribute_as c t) ∙ omega (arith, length-append t (34 ∷ []))

pub stored_attribute : (c : ℕ) (t out : List ℕ) (at : ℕ)
    → set (sets (sets out at (name c)) (at + 4) t) (at + 4 + length t) 34 ≡ sets out at (attribute_bytes c t)
stored_attribute c t out at =
    let end : at + 4 + length t ≡ at + length (name c ++ t) = omega (arith, length-append (name c) t) in
    ap₂ (λ (l : List ℕ) (k : ℕ). sets l k (34 ∷ [])) (sets_append out at (name c) t) end
    ∙ sets_append out at (name c ++ t) (34 ∷ [])
    ∙ ap (sets out at) (append_assoc (name c) t (34 ∷ []) ∙ sym (attribute_as c t))

-- ---- a line: its tag, three attributes and its end
module _ (d k s : List ℕ) where
  abbrev the_tag : List ℕ
  the_tag = 60 ∷ 114 ∷ []

  abbrev the_end : List ℕ
  the_end = 32 ∷ 47 ∷ 62 ∷ 10 ∷ []

  abbrev D : List ℕ
  D = attribute_bytes 68 d

  abbrev K : List ℕ
  K = attribute_bytes 75 k

  abbrev S : List ℕ
  S = attribute_bytes 83 s

  device_as : device_bytes d k s ≡ the_tag ++ (D ++ (K ++ (S ++ the_end)))
  unfolding line_bytes spelled chosen device_list ascii attribute_bytes
  device_as = simp append_assoc

  pub device_length : length (device_bytes d k s) ≡ 21 + length d + length k + length s
  device_length =
      ap length device_as
      ∙ omega
      (arith, attribute_length 68 d, attribute_length 75 k, attribute_length 83 s, length-append D (K ++ (S ++ the_end)), length-append K (S ++ the_end), length-append S the_end)

  pub stored_device : (out : List ℕ)
      → sets (sets (sets (sets (sets out 0 the_tag) 2 D) (7 + length d) K) (7 + length d + 5 + length k) S) (7 + length d + 5 + length k + 5 + length s) the_end
      ≡ sets out 0 (device_bytes d k s)
  stored_device out =
      let second : length (the_tag ++ D) ≡ 7 + length d = omega (arith, attribute_length 68 d) in
      let third : length ((the_tag ++ D) ++ K) ≡ 7 + length d + 5 + length k = omega (arith, second, attribute_length 75 k, length-append (the_tag ++ D) K) in
      let end : length (((the_tag ++ D) ++ K) ++ S) ≡ 7 + length d + 5 + length k + 5 + length s =
      omega (arith, third, attribute_length 83 s, length-append ((the_tag ++ D) ++ K) S) in
      let same : (((the_tag ++ D) ++ K) ++ S) ++ the_end ≡ the_tag ++ (D ++ (K ++ (S ++ the_end))) = simp append_assoc in
      ap (λ (l : List ℕ). sets (sets (sets l (7 + length d) K) (7 + length d + 5 + length k) S) (7 + length d + 5 + length k + 5 + length s) the_end) (sets_then out the_tag D 2 refl)
      ∙ ap (λ (l : List ℕ). sets (sets l (7 + length d + 5 + length k) S) (7 + length d + 5 + length k + 5 + length s) the_end) (sets_then out (the_tag ++ D) K (7 + length d) second)
      ∙ ap (λ (l : List ℕ). sets l (7 + length d + 5 + length k + 5 + length s) the_end) (sets_then out ((the_tag ++ D) ++ K) S (7 + length d + 5 + length k) third)
      ∙ sets_then out (((the_tag ++ D) ++ K) ++ S) the_end (7 + length d + 5 + length k + 5 + length s) end
      ∙ ap (sets out 0) (same ∙ sym device_as)

  -- ---- the room, as the code counts it down
  module _ (room : ℕ) where
    -- where something is left, even if it is 0, there is room
    pub room_left : (r : Option ℕ) (v : ℕ) (b : Bool) → is_some r ≡ not b → SomeIff r (21 + length d + length k + length s ≤ room) v → b ≡ no_room d k s room
    unfolding no_room
    room_left None v true e h =
        let over : room < 21 + length d + length k + length s = omega (arith, h) in
        sym (lt-ltb room (length (device_bytes d k s)) (rw device_length over))
    room_left None v false e h = absurd (let z : false ≡ true = e in cc)
    room_left (Some x) v true e h = absurd (let z : true ≡ false = e in cc)
    room_left (Some x) v false e h = sym (le-ltb room (length (device_bytes d k s)) (rw device_length h.0))

    has_room : false ≡ no_room d k s room → length (device_bytes d k s) ≤ room
    unfolding no_room
    has_room e = ltb-false _ _ (sym e)

    pub fits : (b : Bool) → pick b 92 (pick (no_room d k s room) 16 0) ≡ 0 → length (device_bytes d k s) ≤ room
    unfolding pick
    fits true z = absurd (omega arith)
    fits false z = go (no_room d k s room) refl z
      where
        go : (n : Bool) → no_room d k s room ≡ n → pick n 16 0 ≡ 0 → length (device_bytes d k s) ≤ room
        go true e z = absurd (omega arith)
        go false e z = has_room (sym e)

  pub stored_over : (out : List ℕ) → length (device_bytes d k s) ≤ length out → sets out 0 (device_bytes d k s) ≡ over out (device_bytes d k s)
  stored_over out h = sets_over out (device_bytes d k s) h
