-- What a writer owes that judges by rules, then asks for room, and stores the bytes from the front on.
-- Assumes nothing.
use mathlib.Core.Path.{◌≡◌, refl, sym, ap, ◌∙◌}
use mathlib.Core.Bool.{Bool, true, false}
use mathlib.Core.List.{List, [], ◌∷◌, ◌++◌}
use Prim.Native.Nat.{ℕ, zero, suc, ◌≤◌, ◌<◌}
use native.Mathlib.Omega.{arith}
use lib.Dec.{T}
use lib.ListN.{length}
use lib.Seq.{sets}
use borrow.Author.Tests.{lt-ltb, le-ltb}
use Rattle.wire.specs.Refusal.{Rule, ◌when◌, pick, first, numbered, named}
use Rattle.wire.specs.Writes.{Writes}
use Rattle.wire.specs.Answer.{judged}
use Rattle.wire.specs.Numbered.{number_of, refusal}
use Rattle.wire.specs.declared.refusals.Refusal.{Refusal}
use Rattle.wire.specs.declared.refusals.Refusal.TheVariants.{NoRoom}
use Rattle.wire.proofs.Answer.{none_judged}
use Rattle.std.specs.Prelude.{Result, Ok, Err}
use Rattle.wire.proofs.Rules.{found, passed, first_named}
use Rattle.wire.proofs.Writes.{writes_refused, writes_all}
use Rattle.wire.proofs.Writing.{sets_over}
use Rattle.adi.specs.Room.{no_room}

-- where there is room, what else is judged decides
pub room_there : (rules : List Rule) (bytes out : List ℕ) → no_room bytes out ≡ false → first (rules ++ (16 when no_room bytes out ∷ [])) ≡ first rules
unfolding pick
room_there [] bytes out e = ap (λ (b : Bool). pick b 16 0) e
room_there ((n when b) ∷ rules) bytes out e = ap (pick b n) (room_there rules bytes out e)

-- a judge that refused found a rule that holds
pub some_judged : (n : ℕ) (e : Refusal) → ◌≡◌ {A = Result Unit Refusal} (Err e) (judged tt n) → n ≡ 0 → ⊥
some_judged n e j z = let no : ◌≡◌ {A = Result Unit Refusal} (Err e) (Ok tt) = j ∙ ap (judged tt) z in cc

-- what the code's judge refused with, where it refused
pub refused_judged : (rules : List Rule) (bytes out : List ℕ) (e : Refusal) → T (named rules) → ◌≡◌ {A = Result Unit Refusal} (Err e) (judged tt (first rules))
    → Writes (first (rules ++ (16 when no_room bytes out ∷ []))) bytes out (Err e) out
refused_judged rules bytes out e t j = go (first rules) refl j
  where
    go : (n : ℕ) → n ≡ first rules → ◌≡◌ {A = Result Unit Refusal} (Err e) (judged tt n) → Writes (first (rules ++ (16 when no_room bytes out ∷ []))) bytes out (Err e) out
    go zero en i = absurd (cc)
    go (suc k) en i =
        let is : e ≡ refusal (suc k) = cc in
        let tells : number_of (refusal (suc k)) ≡ suc k =
        ap (λ (n : ℕ). number_of (refusal n)) en ∙ first_named rules t (λ (z : first rules ≡ 0). absurd (let y : suc k ≡ 0 = en ∙ z in omega arith)) ∙ sym en in
        writes_refused bytes out k _ e (found rules _ (suc k) en (λ z. omega arith)) is (ap number_of is ∙ tells)

-- where it let the rest through, n is the length
module _ (rules : List Rule) (bytes out : List ℕ) (good : T (numbered rules)) (let_through : ◌≡◌ {A = Result Unit Refusal} (Ok tt) (judged tt (first rules))) (n : ℕ) (en : n ≡ length bytes) where
  judged_room : (b : Bool) → no_room bytes out ≡ b → pick b 16 0 ≡ first (rules ++ (16 when no_room bytes out ∷ []))
  judged_room b eb = passed rules _ good 0 (pick b 16 0) (sym (none_judged tt _ tt let_through)) refl (ap (λ (t : Bool). pick t 16 0) (sym eb))

  pub refused_16 : length out < n → Writes (first (rules ++ (16 when no_room bytes out ∷ []))) bytes out (Err NoRoom) out
  unfolding pick refusal
  refused_16 h =
      let short : length out < length bytes = omega (arith, en) in
      writes_refused bytes out 15 _ NoRoom (judged_room true (lt-ltb _ _ short)) refl refl

  pub stored : n ≤ length out → (out' : List ℕ) → out' ≡ sets out 0 bytes → Writes (first (rules ++ (16 when no_room bytes out ∷ []))) bytes out (Ok n) out'
  unfolding pick
  stored h out' eo =
      let fits : length bytes ≤ length out = omega (arith, en) in
      writes_all bytes out _ n out' (judged_room false (le-ltb _ _ fits)) en (eo ∙ sets_over out bytes fits)
