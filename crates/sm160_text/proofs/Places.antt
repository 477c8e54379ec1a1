-- What the loops over characters owe: one character more, or one that is not expected.
-- Assumes nothing.
use mathlib.Core.Path.{◌≡◌, refl, sym, ap, ap₂, ◌∙◌}
use mathlib.Core.Bool.{Bool, true, false, not, cond}
use mathlib.Core.List.{List, ◌∷◌}
use Prim.Native.Nat.{ℕ, ◌+◌, ◌-◌, ◌≤◌, ◌<◌}
use native.Mathlib.Numerals.{add-one}
use native.Mathlib.Omega.{arith}
use lib.Dec.{eqb, ltb}
use lib.ListN.{length, take, drop, get_or, drop_of_length-le}
use lib.Seq.{drop-cons}
use borrow.Author.Tests.{ltb-true, ltb-false}
use Rattle.std.proofs.Common.{one-add}
use Rattle.std.specs.Prelude.{Option, Some, None, unwrap_or}
use Rattle.std.specs.List.{position, position_or_len}
use Rattle.std.proofs.lemmas.List.Recursion.{is_position_or_len}
use Rattle.std.proofs.lemmas.List.Sums.{prefix_len-le-length}
use Rattle.sm160_text.specs.Line.{Seen}
use Rattle.sm160_text.specs.declared.Span.{Span}
use Rattle.sm160_text.specs.Text.{begins, is_at, ends_text, run, text_end, text_of}
use Rattle.sm160_text.specs.Walk.{good, characters}

pub drop_next : (s : List ℕ) (i : ℕ) → i < length s → drop i s ≡ get_or s i 0 ∷ drop (i + 1) s
drop_next s i h = rw (add-one, drop-cons s i 0)

pub cond_true : {A : Type 0} (b : Bool) (x y : A) → b ≡ true → cond b x y ≡ x
cond_true b x y e = rw e

pub cond_false : {A : Type 0} (b : Bool) (x y : A) → b ≡ false → cond b x y ≡ y
cond_false b x y e = rw e

module _ (s : List ℕ) (p c : ℕ) where
  pub is_at_here : p < length s → eqb (get_or s p 0) c ≡ is_at s p c
  unfolding is_at
  is_at_here h = ap (λ (l : List ℕ). begins l c) (sym (drop_next s p h))

  pub is_at_past : length s ≤ p → false ≡ is_at s p c
  unfolding is_at
  is_at_past h = ap (λ (l : List ℕ). begins l c) (sym (drop_of_length-le s h))

  pub is_at_in : is_at s p c ≡ true → p < length s
  is_at_in t = go (ltb p (length s)) refl
    where
      go : (b : Bool) → ltb p (length s) ≡ b → p < length s
      go true w = ltb-true p (length s) w
      go false w =
          let z : false ≡ true = is_at_past (ltb-false p (length s) w) ∙ t in
          let o : ◌≡◌ {A = ℕ} 0 1 = cc in
          absurd (omega arith)

-- ---- the characters cs, i of which were met before p
module _ (s cs : List ℕ) (n p i : ℕ) where
  pub characters_more : (r : Bool) → i < length cs → r ≡ is_at s p (get_or cs i 0) → r ≡ true → characters s (p + 1) (drop (i + 1) cs) n ≡ characters s p (drop i cs) n
  unfolding characters
  characters_more r h e t = rw (drop_next cs i h) (sym (cond_true _ _ _ (sym e ∙ t)))

  pub characters_other : (r : Bool) → i < length cs → r ≡ is_at s p (get_or cs i 0) → r ≡ false → ◌≡◌ {A = Seen} (record { number = n; place = p }) (characters s p (drop i cs) n)
  unfolding characters
  characters_other r h e t = rw (drop_next cs i h) (sym (cond_false _ _ _ (sym e ∙ t)))

  pub characters_all : length cs ≤ i → good p ≡ characters s p (drop i cs) n
  unfolding characters
  characters_all h = rw (drop_of_length-le cs h)

-- ---- the end of a text
runs : (l : List ℕ) → run l ≡ position_or_len ends_text l
unfolding run
runs l = is_position_or_len run ends_text refl (λ b bs. ap (cond (ends_text b) 0) (sym (one-add (run bs)))) l

pub text_end_is : (s rest : List ℕ) (p k : ℕ) (o : Option ℕ) → o ≡ position ends_text rest → rest ≡ drop p s → k ≡ unwrap_or o (length rest) → p + k ≡ text_end s p
unfolding text_end
text_end_is s rest p k o eo er ek =
    ap (λ (n : ℕ). p + n)
    (ek ∙ ap (λ (x : Option ℕ). unwrap_or x (length rest)) eo ∙ found (ltb (position_or_len ends_text rest) (length rest)) refl ∙ sym (runs rest) ∙ ap run er)
  where
    found : (b : Bool) → ltb (position_or_len ends_text rest) (length rest) ≡ b
        → unwrap_or (cond (ltb (position_or_len ends_text rest) (length rest)) (Some (position_or_len ends_text rest)) None) (length rest) ≡ position_or_len ends_text rest
    found true e = ap (λ (b : Bool). unwrap_or (cond b (Some (position_or_len ends_text rest)) None) (length rest)) e
    found false e =
        let most : length rest ≤ position_or_len ends_text rest = ltb-false _ _ e in
        let least : position_or_len ends_text rest ≤ length rest = prefix_len-le-length (λ b. not (ends_text b)) rest in
        ap (λ (b : Bool). unwrap_or (cond b (Some (position_or_len ends_text rest)) None) (length rest)) e ∙ omega arith

-- ---- a part of the file
pub text_as : (s : List ℕ) (span : Span) (rest part : List ℕ) (n : ℕ) → part ≡ take n rest → n ≡ span.end - span.start → rest ≡ drop span.start s → part ≡ text_of s span
unfolding text_of
text_as s span rest part n ep en er = ep ∙ ap₂ (λ (k : ℕ) (l : List ℕ). take k l) en er
