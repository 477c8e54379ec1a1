-- What every writer owes: at a refusal, at none, and that no second answer would do.
-- Assumes nothing.
use mathlib.Core.Path.{◌≡◌, refl, sym, ap, ap₂, ◌∙◌, subst}
use mathlib.Core.List.{List}
use Prim.Native.Nat.{ℕ, zero, suc}
use native.Mathlib.Omega.{arith}
use lib.Dec.{T}
use lib.ListN.{length, take, drop}
use lib.Seq.{take-append_seam}
use Rattle.wire.specs.Numbers.{over}
use Rattle.wire.specs.Refusal.{Rule, first, numbered, FirstInOrder}
use Rattle.std.specs.Prelude.{Result, Ok, Err}
use Rattle.wire.specs.Answer.{refuse, judged}
use Rattle.wire.specs.Numbered.{number_of, refusal}
use Rattle.wire.specs.Writes.{Written, Writes, write_answer, write_output, told_written}
use Rattle.wire.specs.declared.refusals.Refusal.{Refusal}
use Rattle.wire.proofs.Rules.{in_order}

module _ (bs out : List ℕ) where
  -- a refusal k + 1, which is the first
  pub writes_refused : (k n : ℕ) (e : Refusal) → suc k ≡ n → e ≡ refusal (suc k) → number_of e ≡ suc k → Writes n bs out (Err e) out
  writes_refused k n e en ee et =
      subst (λ (m : ℕ). Writes m bs out (Err e) out) en (record { answer = ap Err ee; output = refl; told = et })

  -- as the code judges it: r is what a judge answered of n, which was a refusal, and its number (proofs/Rules, `first_named`)
  pub writes_judged : {B : Type 0} (y : B) (r : Result B Refusal) (n : ℕ) (e : Refusal) → r ≡ judged y n → r ≡ Err e → ((n ≡ 0 → ⊥) → number_of (refusal n) ≡ n)
      → Writes n bs out (Err e) out
  writes_judged {B = B} y r zero e j is named = absurd (let z : ◌≡◌ {A = Result B Refusal} (Ok y) (Err e) = sym j ∙ is in cc)
  writes_judged {B = B} y r (suc n) e j is named =
      let same : e ≡ refusal (suc n) = let z : ◌≡◌ {A = Result B Refusal} (Err (refusal (suc n))) (Err e) = sym j ∙ is in cc in
      writes_refused n (suc n) e refl same (ap number_of same ∙ named (λ (z : suc n ≡ 0). absurd (omega arith)))

  -- none
  pub writes_all : (n l : ℕ) (out' : List ℕ) → 0 ≡ n → l ≡ length bs → out' ≡ over out bs → Writes n bs out (Ok l) out'
  writes_all n l out' e el eo =
      subst (λ (m : ℕ). Writes m bs out (Ok l) out') e (record { answer = ap Ok el; output = eo; told = refl })

  -- what a callee has shown of its own, later rules
  pub writes_as : (n m : ℕ) (r : Written) (out' : List ℕ) → n ≡ m → Writes n bs out r out' → Writes m bs out r out'
  writes_as n m r out' e w = subst (λ (k : ℕ). Writes k bs out r out') e w

  pub writes_once : (n : ℕ) (r r' : Written) (o o' : List ℕ) → Writes n bs out r o → Writes n bs out r' o' → ◌≡◌ {A = Written × List ℕ} (r, o) (r', o')
  writes_once n r r' o o' w w' = ap₂ (λ (x : Written) (y : List ℕ). (x, y)) (w.answer ∙ sym w'.answer) (w.output ∙ sym w'.output)

-- an answered length says that nothing was refused, and what the output holds
pub wrote : (n : ℕ) (bs out : List ℕ) (r : Written) (out' : List ℕ) (k : ℕ) → Writes n bs out r out' → r ≡ Ok k → (n ≡ 0) × (k ≡ length bs) × (out' ≡ over out bs)
wrote zero bs out r out' k w e =
    let same : Ok k ≡ Ok (length bs) = sym e ∙ w.answer in
    (refl, (cc), w.output)
wrote (suc n) bs out r out' k w e =
    let same : Ok k ≡ refuse (suc n) = sym e ∙ w.answer in
    let z : ◌≡◌ {A = ℕ} 0 1 = cc in
    absurd (omega arith)

-- and then what stands in the first k bytes of the output is what was to be written
pub wrote_front : (n : ℕ) (bs out : List ℕ) (r : Written) (out' : List ℕ) (k : ℕ) → Writes n bs out r out' → r ≡ Ok k → (n ≡ 0) × (take k out' ≡ bs)
unfolding over
wrote_front n bs out r out' k w e =
    let o = wrote n bs out r out' k w e in
    (o.0, ap₂ (λ (j : ℕ) (l : List ℕ). take j l) o.1 o.2 ∙ take-append_seam bs (drop (length bs) out))

-- where nothing is refused, all of it is written
pub wrote_all : (n : ℕ) (bs out : List ℕ) (r : Written) (out' : List ℕ) → Writes n bs out r out' → n ≡ 0 → (r ≡ Ok (length bs)) × (out' ≡ over out bs)
wrote_all n bs out r out' w z = (w.answer ∙ ap (λ (m : ℕ). write_answer m bs) z, w.output ∙ ap (λ (m : ℕ). write_output m bs out) z)

-- demand 1 of the number that a writer tells
pub written_first : (rules : List Rule) (bs out : List ℕ) (r : Written) (out' : List ℕ) → T (numbered rules) → Writes (first rules) bs out r out'
    → FirstInOrder rules (told_written r).number
written_first rules bs out r out' t w = in_order rules _ t (sym w.told)
