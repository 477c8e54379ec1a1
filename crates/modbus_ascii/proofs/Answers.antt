-- What the reader answers, and what it leaves in the output: at a fault, at an output without room, and at neither.
-- Assumes nothing.
use mathlib.Core.Path.{◌≡◌, refl, sym, ap, ap₂, ◌∙◌}
use mathlib.Core.Bool.{Bool, true, false, not}
use mathlib.Core.List.{List, [], ◌∷◌}
use Prim.Native.Nat.{ℕ, zero, suc, ◌-◌, ◌/◌, ◌%◌, ◌≤◌}
use native.Mathlib.Omega.{arith}
use lib.ListN.{length, get_or, take, drop, length-drop}
use lib.Seq.{sets, length-take-le}
use lib.Dec.{eqb}
use borrow.Author.Tests.{ltb-false, not-false}
use Rattle.checksum.specs.Sums.{sum_from}
use Rattle.wire.specs.Refusal.{Rule, ◌when◌, first}
use Rattle.std.specs.Prelude.{Result, Ok, Err}
use Rattle.wire.specs.Answer.{answered, refuse, judged}
use Rattle.wire.specs.Numbered.{refusal}
use Rattle.wire.specs.Writes.{write_output}
use Rattle.wire.specs.declared.refusals.Refusal.{Refusal}
use Rattle.wire.specs.declared.refusals.Refusal.TheVariants.{NoRoom}
use Rattle.wire.proofs.Answer.{none_judged, judged_none}
use Rattle.wire.proofs.Bools.{or_neither}
use Rattle.wire.proofs.Rules.{first_hits, first_skips, none_first, hit, skip}
use Rattle.wire.proofs.Writing.{sets_over}
use Rattle.modbus.specs.Envelope.{said_by, no_room}
use Rattle.modbus_ascii.specs.Hex.{of_hex, all_digits}
use Rattle.modbus_ascii.specs.Ascii.{ascii, inside, bad_characters, bad_lrc, ascii_rules, ascii_data, read_rules, found_ascii, read_ascii, ascii_output}
use Rattle.modbus_ascii.specs.declared.Ascii.{Ascii}
use Rattle.modbus_ascii.proofs.Pairs.{length_of_hex, same_digits}

pub length_inside : (s : List ℕ) → length (inside s) ≡ length s - 3
unfolding inside
length_inside s =
    let within : length s - 3 ≤ length (drop 1 s) = rw length-drop (omega arith) in
    length-take-le (length s - 3) (drop 1 s) within

length_data : (s : List ℕ) → length (ascii_data s) ≡ length (inside s) / 2 - 3
length_data s =
    let p = of_hex (inside s) in
    let within : length p - 3 ≤ length (drop 2 p) = rw length-drop (omega arith) in
    length-take-le (length p - 3) (drop 2 p) within ∙ ap (λ (n : ℕ). n - 3) (length_of_hex (inside s))

-- the test of 64, on what the code's calls answered
pub lrc_tested : (s t : List ℕ) (r : Bool) → t ≡ inside s → r ≡ not (eqb (sum_from 0 (of_hex t)) 0) → r ≡ bad_lrc s
lrc_tested s t r et er = er ∙ ap (λ (l : List ℕ). not (eqb (sum_from 0 (of_hex l)) 0)) et

-- no 63: digits stand between the marks; r is what the code's test answered
pub digits_inside : (s : List ℕ) (r : Bool) → r ≡ bad_characters s → r ≡ false → all_digits (inside s) ≡ true
digits_inside s r e f = not-false (all_digits (inside s)) (or_neither (not (all_digits (inside s))) (not (eqb (length (inside s) % 2) 0)) (sym e ∙ f)).0

-- no fault: what stands between the marks is digits, for three bytes or more
pub accepted_inside : (s : List ℕ) → ◌≡◌ {A = Result Unit Refusal} (Ok tt) (judged tt (first (ascii_rules s))) → (t : List ℕ) → t ≡ inside s → (all_digits t ≡ true) × (3 ≤ length t / 2)
accepted_inside s q t et =
    let none = none_first (ascii_rules s) tt (none_judged tt _ tt q) in
    let long : 9 ≤ length s = ltb-false (length s) 9 none.0 in
    (same_digits t (inside s) et (digits_inside s (bad_characters s) refl none.1.1.1.0), omega (arith, ap length et, length_inside s))

-- what the reader owes
abbrev Owes : List ℕ → List ℕ → Result Ascii Refusal → List ℕ → Type 0
Owes s out r out' = (r ≡ read_ascii s out) × (out' ≡ ascii_output s out)

module _ (s out : List ℕ) where
  abbrev room : List Rule
  room = 16 when no_room (length (ascii_data s)) out ∷ []

  owes_refused : (n : ℕ) (why : Refusal) → n ≡ first (read_rules s out) → ◌≡◌ {A = Result Unit Refusal} (Err why) (judged tt n) → Owes s out (Err why) out
  unfolding read_ascii ascii_output
  owes_refused zero why e q = absurd (cc)
  owes_refused (suc n) why e q =
      let same : why ≡ refusal (suc n) = cc in
      (ap Err same ∙ ap (answered refuse (found_ascii (said_by ascii s))) e, ap (λ (k : ℕ). write_output k (ascii_data s) out) e)

  pub refused_read : (why : Refusal) → ◌≡◌ {A = Result Unit Refusal} (Err why) (judged tt (first (ascii_rules s))) → Owes s out (Err why) out
  refused_read why q =
      let some : first (ascii_rules s) ≡ 0 → ⊥ = λ z. (let y : ◌≡◌ {A = Result Unit Refusal} (Err why) (Ok tt) = q ∙ judged_none tt _ z in cc) in
      owes_refused (first (ascii_rules s)) why (sym (first_hits (ascii_rules s) room some)) q

  module _ (q : ◌≡◌ {A = Result Unit Refusal} (Ok tt) (judged tt (first (ascii_rules s)))) where
    last : first room ≡ first (read_rules s out)
    last = sym (first_skips (ascii_rules s) room (none_first (ascii_rules s) tt (none_judged tt _ tt q)))

    -- t is what stands between the marks, k the count of the data
    module _ (t : List ℕ) (et : t ≡ inside s) (k : ℕ) (ek : k ≡ length t / 2 - 3) where
      count : k ≡ length (ascii_data s)
      count = ek ∙ ap (λ (l : List ℕ). length l / 2 - 3) et ∙ sym (length_data s)

      -- r is what the code's test of the room answered
      module _ (r : Bool) (er : r ≡ no_room k out) where
        tested : r ≡ no_room (length (ascii_data s)) out
        tested = er ∙ ap (λ (j : ℕ). no_room j out) count

        pub short_read : r ≡ true → Owes s out (Err NoRoom) out
        unfolding refusal
        short_read h = owes_refused 16 NoRoom (hit r (no_room (length (ascii_data s)) out) 16 0 tested h ∙ last) refl

        pub found_read : r ≡ false → (a f : ℕ) (out' : List ℕ) → a ≡ get_or (of_hex t) 0 0 → f ≡ get_or (of_hex t) 1 0 → out' ≡ sets out 0 (take k (drop 2 (of_hex t)))
            → Owes s out (Ok (record { address = a; function = f; length = k })) out'
        unfolding read_ascii ascii_output
        found_read h a f out' ea ef eo =
            let room_there : length (ascii_data s) ≤ length out = ltb-false (length out) (length (ascii_data s)) (sym tested ∙ h) in
            let zeroth : 0 ≡ first (read_rules s out) = skip r (no_room (length (ascii_data s)) out) 16 0 0 tested h refl ∙ last in
            let a' : a ≡ get_or (of_hex (inside s)) 0 0 = ea ∙ ap (λ (l : List ℕ). get_or (of_hex l) 0 0) et in
            let f' : f ≡ get_or (of_hex (inside s)) 1 0 = ef ∙ ap (λ (l : List ℕ). get_or (of_hex l) 1 0) et in
            let bytes : take k (drop 2 (of_hex t)) ≡ ascii_data s =
            ap₂ (λ (j : ℕ) (l : List ℕ). take j (drop 2 (of_hex l))) (ek ∙ ap (λ (l : List ℕ). length l / 2 - 3) et) et
            ∙ ap (λ (j : ℕ). take (j - 3) (drop 2 (of_hex (inside s)))) (sym (length_of_hex (inside s))) in
            let found : Ok (record { address = a; function = f; length = k }) ≡ found_ascii (said_by ascii s) = cc (a', f', count) in
            (found ∙ ap (answered refuse (found_ascii (said_by ascii s))) zeroth, eo ∙ ap (sets out 0) bytes ∙ sets_over out (ascii_data s) room_there ∙ ap (λ (n : ℕ). write_output n (ascii_data s) out) zeroth)
