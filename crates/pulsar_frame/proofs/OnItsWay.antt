-- Refusal 9: exactly where no earlier rule holds and bytes lack, and with their count; and that many bytes more make the frame whole.
-- Assumes nothing.
use mathlib.Core.Path.{◌≡◌, refl, sym, ap, ◌∙◌}
use mathlib.Core.Bool.{Bool, true, false}
use mathlib.Core.List.{List, [], ◌∷◌, ◌++◌, append-nil}
use Prim.Native.Nat.{ℕ, zero, suc, ◌-◌, ◌<◌, ◌≤◌}
use native.Mathlib.Omega.{arith}
use lib.Dec.{eqb}
use lib.ListN.{length, take, drop, length-append, get_or-append}
use borrow.Author.Tests.{eqb-true, eqb-false, ne_eqb, lt-ltb, ltb-true, ltb-false}
use Rattle.std.specs.Prelude.{Result, Err, cond}
use Rattle.wire.specs.Answer.{judged}
use Rattle.wire.specs.Numbered.{number_of, with_number, refusals, refusal as by_number}
use Rattle.wire.specs.Refusal.{Rule, ◌when◌, pick, first, NoneHolds}
use Rattle.wire.proofs.Rules.{first_skips}
use Rattle.wire.specs.declared.refusals.Refusal.{Refusal}
use Rattle.wire.specs.declared.refusals.Refusal.TheVariants.{NobodyDue, OnItsWay}
use Rattle.pulsar_frame.specs.Layout.{len_of}
use Rattle.pulsar_frame.specs.Reading.{too_short, on_its_way, missing, meter_rules, master_rules, refused_as, refusal, read_answer, read_at_meter, read_at_master, told_frame_read}
use Rattle.pulsar_frame.specs.Promise.{TellsMissing}
use Rattle.pulsar_frame.specs.declared.Frame.{Frame}
use Rattle.pulsar_frame.specs.declared.Fault.{Fault}
use Rattle.pulsar_frame.specs.declared.Fault.TheVariants.{Missing, Refused}

-- a refusal tells its number
pub refusal_tells : (lack n : ℕ) → (told_frame_read (Err (refusal lack n))).number ≡ number_of (by_number n)
unfolding by_number
refusal_tells lack n = go (eqb n 9) refl
  where
    go : (t : Bool) → eqb n 9 ≡ t → (told_frame_read (Err (refused_as t lack n))).number ≡ number_of (by_number n)
    go true e = sym (ap (λ (k : ℕ). number_of (by_number k)) (eqb-true n 9 e))
    go false e = refl

-- OnItsWay is the refusal 9, and no other number's
its_number : (t : Bool) (n : ℕ) (r last : Refusal) → eqb (number_of r) n ≡ t → (OnItsWay ≡ last → n ≡ 9) → OnItsWay ≡ cond t r last → n ≡ 9
its_number true n r last e more is = sym (eqb-true (number_of r) n e) ∙ sym (ap number_of is)
its_number false n r last e more is = more is

nine_of : (n : ℕ) (last : Refusal) (rs : List Refusal) → (OnItsWay ≡ last → n ≡ 9) → OnItsWay ≡ with_number n last rs → n ≡ 9
nine_of n last [] other e = other e
nine_of n last (r ∷ rs) other e = its_number (eqb (number_of r) n) n r (with_number n last rs) refl (nine_of n last rs other) e

-- for the code: what is told of a refusal
pub lacks_some : (lack n : ℕ) → OnItsWay ≡ by_number n → Missing lack ≡ refusal lack n
unfolding by_number
lacks_some lack n e = sym (ap (refusal lack) (nine_of n NobodyDue refusals (λ q. absurd (cc)) e))

pub refused_alone : (why : Refusal) (lack n : ℕ) → (why ≡ OnItsWay → ⊥) → why ≡ by_number n → Refused why ≡ refusal lack n
unfolding by_number
refused_alone why lack n other e =
    let not_nine = λ (z : n ≡ 9). other (e ∙ ap by_number z) in
    ap Refused e ∙ sym (ap (λ (b : Bool). refused_as b lack n) (ne_eqb n 9 not_nine))

-- and what a side answers that found one, n the number of its first rule
pub sends_back : (s : List ℕ) (why : Refusal) (f : Fault) (n : ℕ) → ◌≡◌ {A = Result Unit Refusal} (Err why) (judged tt n)
    → ((k : ℕ) → why ≡ by_number k → f ≡ refusal (missing s) k) → Err f ≡ read_answer s n
sends_back s why f zero j says = absurd (cc)
sends_back s why f (suc n) j says = ap Err (says (suc n) (cc))

-- an answer that tells a count has refusal 9, and the count is that of the bytes
told_nine : (s : List ℕ) (n k : ℕ) → read_answer s n ≡ Err (Missing k) → n ≡ 9
told_nine s zero k e = absurd (cc)
told_nine s (suc n) k e = go (eqb (suc n) 9) refl e
  where
    go : (t : Bool) → eqb (suc n) 9 ≡ t → ◌≡◌ {A = Result Frame Fault} (Err (refused_as t (missing s) (suc n))) (Err (Missing k)) → suc n ≡ 9
    go true q i = eqb-true (suc n) 9 q
    go false q i = absurd (cc)

told_count : (s : List ℕ) (n k : ℕ) → n ≡ 9 → read_answer s n ≡ Err (Missing k) → missing s ≡ k
told_count s n k nine e =
    let same : ◌≡◌ {A = Result Frame Fault} (Err (Missing (missing s))) (Err (Missing k)) = ap (read_answer s) (sym nine) ∙ e in
    cc

-- ---- bytes lack exactly where row 2 does not hold and row 9 does
module _ (s : List ℕ) where
  lack : (t : Bool) → too_short s ≡ t → 0 < missing s → (too_short s ≡ false) × (missing s ≡ len_of s - length s)
  unfolding pick
  lack true e h = absurd (let z : missing s ≡ 0 = rw e in omega arith)
  lack false e h = (e, rw e)

  lacks : 0 < missing s → on_its_way s ≡ true
  lacks h =
      let counted = (lack (too_short s) refl h).1 in
      lt-ltb (length s) (len_of s) (omega arith)

  some_lack : too_short s ≡ false → on_its_way s ≡ true → 0 < missing s
  unfolding pick
  some_lack long less =
      let counted : missing s ≡ len_of s - length s = rw long in
      let above : length s < len_of s = ltb-true (length s) (len_of s) less in
      omega arith

  -- LEN is then the bytes received
  pub made_whole : (more : List ℕ) → 0 < missing s → length more ≡ missing s → len_of (s ++ more) ≡ length (s ++ more)
  made_whole more h e =
      let counted = lack (too_short s) refl h in
      let long : 10 ≤ length s = ltb-false (length s) 10 counted.0 in
      get_or-append s more 0 5 (omega arith) ∙ sym (length-append s more ∙ (omega (arith, counted.1)))

-- ---- rule 9 among others
abbrev Others : List Rule → Type 0
Others [] = Unit {0}
Others ((n when b) ∷ rs) = (eqb n 9 ≡ false) × Others rs

past : (rs ss : List Rule) → Others rs → first (rs ++ ss) ≡ 9 → NoneHolds rs × (first ss ≡ 9)
unfolding pick
past [] ss o e = (tt, e)
past ((n when true) ∷ rs) ss o e = absurd (eqb-false n 9 o.0 e)
past ((n when false) ∷ rs) ss o e =
    let more = past rs ss o.1 e in
    ((refl, more.0), more.1)

never : (rs : List Rule) → Others rs → first rs ≡ 9 → ⊥
never rs o e = omega (arith, (past rs [] o (ap first (append-nil rs) ∙ e)).1)

module _ (s : List ℕ) (before after : List Rule) (o : Others before) (p : Others after) (long : NoneHolds before → too_short s ≡ false) where
  abbrev Answer : Result Frame Fault
  Answer = read_answer s (first (before ++ ((9 when on_its_way s) ∷ after)))

  holds : (b : Bool) → first ((9 when b) ∷ after) ≡ 9 → b ≡ true
  unfolding pick
  holds true e = refl
  holds false e = absurd (never after p e)

  told_where : NoneHolds before → 0 < missing s → Answer ≡ Err (Missing (missing s))
  unfolding pick
  told_where none h =
      ap (read_answer s)
      (first_skips before ((9 when on_its_way s) ∷ after) none ∙ ap (λ (b : Bool). pick b 9 (first after)) (lacks s h))

  only_where : (k : ℕ) → Answer ≡ Err (Missing k) → NoneHolds before × (k ≡ missing s) × (0 < k)
  only_where k e =
      let n = first (before ++ ((9 when on_its_way s) ∷ after)) in
      let nine = told_nine s n k e in
      let count = told_count s n k nine e in
      let passed = past before ((9 when on_its_way s) ∷ after) o nine in
      let some = some_lack s (long passed.0) (holds (on_its_way s) passed.1) in
      (passed.0, sym count, (omega arith))

  tells : TellsMissing Answer before (missing s)
  tells = record { told = told_where; only = only_where }

-- at the meter after 1, 2, 3 and 4
pub meter_tells_missing : (own : ℕ) (s : List ℕ) → TellsMissing (read_at_meter own s) (take 4 (meter_rules own s)) (missing s)
unfolding read_at_meter
meter_tells_missing own s =
    tells s (take 4 (meter_rules own s)) (drop 5 (meter_rules own s)) (refl, (refl, (refl, (refl, tt)))) (refl, (refl, (refl, tt))) (λ h. h.1.0)

-- at the master after 1, 2, 3, 6, 7 and 4
pub master_tells_missing : (address function id : ℕ) (s : List ℕ)
    → TellsMissing (read_at_master address function id s) (take 6 (master_rules address function id s)) (missing s)
unfolding read_at_master
master_tells_missing address function id s =
    let rules = master_rules address function id s in
    tells s (take 6 rules) (drop 7 rules) (refl, (refl, (refl, (refl, (refl, (refl, tt)))))) (refl, (refl, tt)) (λ h. h.1.0)
