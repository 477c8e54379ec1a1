-- What the readers accept: a frame that was written, and what they have found of bytes that they accept.
-- Assumes nothing.
use mathlib.Core.Path.{◌≡◌, refl, sym, ap, ◌∙◌}
use mathlib.Core.Bool.{Bool, false, not, ◌&&◌, ◌||◌}
use mathlib.Core.List.{List, ◌++◌}
use mathlib.Core.Logic.{◌⊎◌, ⊎_elim}
use Prim.Native.Nat.{ℕ, zero, suc, ◌+◌, ◌≤◌}
use lib.Dec.{eqb}
use lib.ListN.{length}
use borrow.Author.Tests.{eq-eqb, ne_eqb}
use native.Mathlib.Omega.{arith}
use Rattle.std.specs.Prelude.{Result, Ok}
use Rattle.std.proofs.lemmas.Bool.Decides.{nat_tests}
use Rattle.wire.specs.Refusal.{first, NoneHolds}
use Rattle.wire.proofs.Rules.{first_none, none_first}
use Rattle.pulsar_frame.specs.Layout.{frame_bytes, address_of, function_of, id_of}
use Rattle.pulsar_frame.specs.Reading.{bad_own, bad_asked, too_short, not_bcd, bad_length, on_its_way, bad_crc, not_mine, not_asked, no_function, other_function, other_id, meter_rules, master_rules, frame_of, read_answer, read_at_meter, read_at_master}
use Rattle.pulsar_frame.specs.Promise.{Typed}
use Rattle.pulsar_frame.specs.declared.Frame.{Frame}
use Rattle.pulsar_frame.specs.declared.Fault.{Fault}
use Rattle.pulsar_frame.proofs.Parts.{written_function, written_len, written_bcd, written_address, written_id, written_crc, written_long, written_length, written_whole}

-- ---- tests, from facts and back
one_of : (x a b : ℕ) → (x ≡ a) ⊎ (x ≡ b) → not (eqb x a || eqb x b) ≡ false
one_of x a b = ⊎_elim (λ e. grind (arith, nat_tests)) (λ e. grind (arith, nat_tests))

-- the address of a reply, at the master that asked
abbrev other_address : ℕ → ℕ → Bool
other_address asked a = not (not (eqb asked 0) && eqb a asked || eqb asked 0 && not (eqb a 0))

expected : (asked a : ℕ) → (a ≡ 0 → ⊥) → (a ≡ asked) ⊎ (asked ≡ 0) → other_address asked a ≡ false
expected asked a pos = ⊎_elim (λ q. grind (arith, nat_tests)) (λ q. grind (arith, nat_tests))

-- a reply that bears 0 is not it
bears_not : (asked a : ℕ) → other_address asked a ≡ false → a ≡ 0 → ⊥
bears_not asked a e z = grind (arith, nat_tests)

-- ---- a frame that was written, with anything after it, is accepted
module _ (a f id : ℕ) (p rest : List ℕ) (typed : Typed f id p) (small : length p ≤ 245) (fits : a ≤ 99999999) where
  abbrev pub S : List ℕ
  S = frame_bytes a f id p ++ rest

  abbrev pub Fields : Result Frame Fault
  Fields = Ok (record { address = a; function = f; id = id; len = length p + 10 })

  the_frame : ◌≡◌ {A = Result Frame Fault} (Ok (frame_of S)) Fields
  the_frame =
      let ea = written_address a f id p rest fits in
      let ef = written_function a f id p rest in
      let ei = written_id a f id p rest typed.id_fits in
      let en = written_len a f id p rest in
      cc

  long : too_short S ≡ false
  long = written_long a f id p rest

  decimal : not_bcd S ≡ false
  decimal = written_bcd a f id p rest

  counted : bad_length S ≡ false
  counted = written_length a f id p rest

  whole : on_its_way S ≡ false
  whole = written_whole a f id p rest

  checked : bad_crc S ≡ false
  checked = written_crc a f id p rest typed.function_fits small typed.payload_fits

  pub meter_reads : (own : ℕ) → bad_own own ≡ false → (a ≡ own) ⊎ (a ≡ 0) → (f ≡ 0 → ⊥) → read_at_meter own S ≡ Fields
  unfolding read_at_meter
  meter_reads own good mine asks =
      let mine' : not_mine own S ≡ false = one_of (address_of S) own 0 (rw (written_address a f id p rest fits) mine) in
      let asks' : no_function S ≡ false = ne_eqb (function_of S) 0 (λ e. asks (sym (written_function a f id p rest) ∙ e)) in
      let none : NoneHolds (meter_rules own S) = (good, (long, (decimal, (counted, (whole, (checked, (mine', (asks', tt)))))))) in
      ap (read_answer S) (first_none (meter_rules own S) none) ∙ the_frame

  pub master_reads : (asked g : ℕ) → bad_asked asked g ≡ false → (a ≡ 0 → ⊥) → (a ≡ asked) ⊎ (asked ≡ 0) → (f ≡ g) ⊎ (f ≡ 0)
      → read_at_master asked g id S ≡ Fields
  unfolding read_at_master
  master_reads asked g good pos mine answers =
      let ea = written_address a f id p rest fits in
      let mine' : not_asked asked S ≡ false = expected asked (address_of S) (λ z. pos (sym ea ∙ z)) (rw ea mine) in
      let answers' : other_function g S ≡ false = one_of (function_of S) g 0 (rw (written_function a f id p rest) answers) in
      let same : other_id id S ≡ false = ap not (eq-eqb (id_of S) id (written_id a f id p rest typed.id_fits)) in
      let none : NoneHolds (master_rules asked g id S) = (good, (long, (decimal, (mine', (answers', (counted, (whole, (checked, (same, tt))))))))) in
      ap (read_answer S) (first_none (master_rules asked g id S) none) ∙ the_frame

-- ---- what is accepted

-- what either side has found of bytes that it accepts as the frame fr
pub record Accepted (s : List ℕ) (fr : Frame) : Type 0 where
  pub frame : frame_of s ≡ fr
  pub decimal : not_bcd s ≡ false
  pub counted : bad_length s ≡ false
  pub whole : on_its_way s ≡ false
  pub checked : bad_crc s ≡ false

found : (n : ℕ) (s : List ℕ) (fr : Frame) → read_answer s n ≡ Ok fr → (n ≡ 0) × (frame_of s ≡ fr)
found zero s fr e = (refl, (cc))
found (suc n) s fr e = absurd (cc)

-- the meter has found a function too
pub at_meter_lem : (own : ℕ) (s : List ℕ) (fr : Frame) → read_at_meter own s ≡ Ok fr → Accepted s fr × (no_function s ≡ false)
unfolding read_at_meter
at_meter_lem own s fr e =
    let ok = found (first (meter_rules own s)) s fr e in
    let h = (none_first (meter_rules own s) tt ok.0).1.1 in
    (record { frame = ok.1; decimal = h.0; counted = h.1.0; whole = h.1.1.0; checked = h.1.1.1.0 }, h.1.1.1.1.1.0)

-- the master that the address is not 0
pub at_master : (address function id : ℕ) (s : List ℕ) (fr : Frame) → read_at_master address function id s ≡ Ok fr
    → Accepted s fr × (address_of s ≡ 0 → ⊥)
unfolding read_at_master
at_master address function id s fr e =
    let ok = found (first (master_rules address function id s)) s fr e in
    let h = (none_first (master_rules address function id s) tt ok.0).1.1 in
    (record { frame = ok.1; decimal = h.0; counted = h.1.1.1.0; whole = h.1.1.1.1.0; checked = h.1.1.1.1.1.0 }, bears_not address (address_of s) h.1.0)
