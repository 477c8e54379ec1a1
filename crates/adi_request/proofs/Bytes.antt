-- The bytes of groups and what they say, one group and all of them: written and read again, and read and written again.
-- Assumes nothing.
use mathlib.Core.Path.{◌≡◌, refl, sym, ap, ap₂, ◌∙◌, subst}
use mathlib.Core.Bool.{Bool, true, false, cond}
use mathlib.Core.List.{List, [], ◌∷◌, ◌++◌, map}
use Prim.Native.Nat.{ℕ, zero, suc, ◌+◌, ◌*◌, ◌/◌, ◌%◌, ◌≤◌, ◌<◌}
use native.Mathlib.Omega.{arith}
use lib.Dec.{ltb}
use lib.ListN.{length}
use borrow.Author.Tests.{eqb-true, not-false, le-ltb}
use Rattle.std.specs.Prelude.{None, Some}
use Rattle.wire.specs.Each.{Bytes}
use Rattle.wire.specs.InTurn.{Faultless}
use Rattle.wire.specs.Numbers.{digits, number, be, of_be, field}
use Rattle.adi.specs.Groups.{starts, groups, at_place}
use Rattle.adi_request.specs.Layout.{file_of, record_of, length_of, asked_of, group_bytes, six, body_bytes}
use Rattle.adi_request.specs.Reading.{bad_record, no_length, group_rules, wholly}
use Rattle.adi_request.specs.Writing.{asked_rules}
use Rattle.adi_request.specs.Promise.{Words}
use Rattle.adi_request.specs.declared.Asked.{Asked}

-- two bytes and their number
back : (v : ℕ) → v < 65536 → v % 256 + 256 * (v / 256 % 256 + 256 * 0) ≡ v
back v h = omega arith

high : (a b : ℕ) → a < 256 → b < 256 → (b + 256 * (a + 256 * 0)) / 256 % 256 ≡ a
high a b h k = omega arith

low : (a b : ℕ) → b < 256 → (b + 256 * (a + 256 * 0)) % 256 ≡ b
low a b k = omega arith

-- ---- one group that is written, with the bytes after it
module _ (a : Asked) (rest : List ℕ) where
  groups_written : groups six (group_bytes a ++ rest) ≡ (group_bytes a ++ rest) ∷ groups six rest
  unfolding group_bytes be digits starts
  groups_written = refl

  whole : 7 ≤ length (group_bytes a ++ rest)
  unfolding group_bytes be digits
  whole = omega arith

  module _ (words : (a.file < 65536) × (a.«record» < 65536) × (a.length < 65536)) where
    file_back : file_of (group_bytes a ++ rest) ≡ a.file
    unfolding group_bytes be digits of_be number field
    file_back = back a.file words.0

    record_back : record_of (group_bytes a ++ rest) ≡ a.«record»
    unfolding group_bytes be digits of_be number field
    record_back = back a.«record» words.1

    length_back : length_of (group_bytes a ++ rest) ≡ a.length
    unfolding group_bytes be digits of_be number field
    length_back = back a.length words.2

    asked_back : asked_of (group_bytes a ++ rest) ≡ a
    asked_back =
        ap₂ (λ (x y : ℕ). record { file = x; «record» = y; length = length_of (group_bytes a ++ rest) }) file_back record_back
        ∙ ap (λ (x : ℕ). record { file = a.file; «record» = a.«record»; length = x }) length_back

    wholly_back : wholly (group_bytes a ++ rest) ≡ Some a
    wholly_back =
        ap (λ (b : Bool). cond b None (Some (asked_of (group_bytes a ++ rest)))) (le-ltb _ _ whole) ∙ ap Some asked_back

    -- the reader finds no fault where the writer found none
    good_back : Faultless asked_rules (a ∷ []) → Faultless group_rules ((group_bytes a ++ rest) ∷ [])
    unfolding group_bytes
    good_back f = (
      (
        refl,
        (
          ap₂ (λ (x y : ℕ). bad_record x y) file_back record_back ∙ f.0.0,
          (ap (λ (x : ℕ). no_length x) length_back ∙ f.0.1.0, tt),
        ),
      ),
      tt,
    )

-- ---- all of them
pub body_count : (asks : List Asked) → length (groups six (body_bytes asks)) ≡ length asks
unfolding body_bytes starts
body_count [] = refl
body_count (a ∷ asks) = ap length (groups_written a (body_bytes asks)) ∙ ap suc (body_count asks)

pub body_faultless : (asks : List Asked) → Words asks → Faultless asked_rules asks → Faultless group_rules (groups six (body_bytes asks))
unfolding body_bytes starts
body_faultless [] words f = tt
body_faultless (a ∷ asks) words f =
    subst (Faultless group_rules) (sym (groups_written a (body_bytes asks)))
    ((good_back a (body_bytes asks) words.0 (f.0, tt)).0, body_faultless asks words.1 f.1)

pub body_each : (asks : List Asked) → Words asks → (place : ℕ) → wholly (at_place [] (groups six (body_bytes asks)) place) ≡ at_place None (map Some asks) place
unfolding body_bytes starts
body_each asks words zero = refl
body_each [] words (suc k) = refl
body_each (a ∷ asks) words (suc zero) =
    ap (λ (gs : List (List ℕ)). wholly (at_place [] gs 1)) (groups_written a (body_bytes asks)) ∙ wholly_back a (body_bytes asks) words.0
body_each (a ∷ asks) words (suc (suc k)) =
    ap (λ (gs : List (List ℕ)). wholly (at_place [] gs (suc (suc k)))) (groups_written a (body_bytes asks)) ∙ body_each asks words.1 (suc k)

-- ---- groups that are read, written again
pub body_again : (d : List ℕ) → length d % 7 ≡ 0 → Bytes d → Faultless group_rules (groups six d) → body_bytes (map asked_of (groups six d)) ≡ d
unfolding starts body_bytes group_bytes be digits of_be number field
body_again [] e h f = refl
body_again (t ∷ []) e h f = absurd (omega arith)
body_again (t ∷ a ∷ []) e h f = absurd (omega arith)
body_again (t ∷ a ∷ b ∷ []) e h f = absurd (omega arith)
body_again (t ∷ a ∷ b ∷ i ∷ []) e h f = absurd (omega arith)
body_again (t ∷ a ∷ b ∷ i ∷ j ∷ []) e h f = absurd (omega arith)
body_again (t ∷ a ∷ b ∷ i ∷ j ∷ m ∷ []) e h f = absurd (omega arith)
body_again (t ∷ a ∷ b ∷ i ∷ j ∷ m ∷ n ∷ d) e h f =
    let more = body_again d (omega arith) h.1.1.1.1.1.1.1 f.1 in
    let is-six : t ≡ 6 = eqb-true t 6 (not-false _ f.0.0) in
    let cons : ℕ → List ℕ → List ℕ = λ x l. x ∷ l in
    ap₂ cons (sym is-six)
    (ap₂ cons (high a b h.1.0 h.1.1.0)
    (ap₂ cons (low a b h.1.1.0)
    (ap₂ cons (high i j h.1.1.1.0 h.1.1.1.1.0)
    (ap₂ cons (low i j h.1.1.1.1.0)
    (ap₂ cons (high m n h.1.1.1.1.1.0 h.1.1.1.1.1.1.0)
    (ap₂ cons (low m n h.1.1.1.1.1.1.0) more))))))

-- the writer finds no fault where the reader found none
pub again_faultless : (gs : List (List ℕ)) → Faultless group_rules gs → Faultless asked_rules (map asked_of gs)
again_faultless [] f = tt
again_faultless (g ∷ gs) f = ((f.0.1.0, (f.0.1.1.0, tt)), again_faultless gs f.1)

-- groups are those that stand at their places
found_is : (g : List ℕ) (a : Asked) → wholly g ≡ Some a → asked_of g ≡ a
found_is g a e = go (ltb (length g) 7) refl
  where
    go : (b : Bool) → ltb (length g) 7 ≡ b → asked_of g ≡ a
    go true eb =
        absurd (let same : None ≡ Some a = sym (ap (λ (b : Bool). cond b None (Some (asked_of g))) eb) ∙ e in let z : ◌≡◌ {A = ℕ} 0 1 = cc in omega arith)
    go false eb = let same : Some (asked_of g) ≡ Some a = sym (ap (λ (b : Bool). cond b None (Some (asked_of g))) eb) ∙ e in cc

pub each_is : (gs : List (List ℕ)) (asks : List Asked) → length gs ≡ length asks
    → ((place : ℕ) → wholly (at_place [] gs place) ≡ at_place None (map Some asks) place) → map asked_of gs ≡ asks
each_is [] [] e h = refl
each_is [] (a ∷ asks) e h = absurd (omega arith)
each_is (g ∷ gs) [] e h = absurd (omega arith)
each_is (g ∷ gs) (a ∷ asks) e h =
    ap₂ (λ (x : Asked) (l : List Asked). x ∷ l) (found_is g a (h 1)) (each_is gs asks (omega arith) (λ place. later place))
  where
    later : (place : ℕ) → wholly (at_place [] gs place) ≡ at_place None (map Some asks) place
    later zero = refl
    later (suc k) = h (suc (suc k))
