-- What a message needs is counted for 253 bytes of data at most: so the rules of writing, asked of what was counted, are those of the message.
-- Assumes nothing.
use mathlib.Core.Path.{◌≡◌, refl, sym, ap, ◌∙◌}
use mathlib.Core.Bool.{Bool, true, false, true≢false}
use mathlib.Core.List.{List}
use Prim.Native.Nat.{ℕ, ◌≤◌}
use native.Mathlib.Omega.{arith}
use lib.ListN.{length}
use lib.Seq.{sets, take_all}
use borrow.Author.Tests.{ltb-false}
use Rattle.std.specs.Prelude.{Result, Ok, Err, is_err}
use Rattle.wire.specs.Answer.{judged}
use Rattle.wire.specs.Refusal.{pick, first, NoneHolds}
use Rattle.wire.specs.Writes.{write_output}
use Rattle.wire.specs.declared.refusals.Refusal.{Refusal}
use Rattle.wire.proofs.Answer.{none_judged}
use Rattle.wire.proofs.Rules.{none_first, first_named}
use Rattle.wire.proofs.Writes.{writes_judged}
use Rattle.wire.proofs.Writing.{sets_over}
use Rattle.modbus.specs.Envelope.{Message, Envelope, message, bytes_of, counted_of, too_much, write_rules, envelope_output}

pub counted_whole : (m : Message) → length m.«data» ≤ 252 → counted_of m ≡ m
counted_whole m h = ap (message m.address m.function) (take_all 253 m.«data» (omega arith))

-- n is what was counted
module _ (e : Envelope) (m : Message) (out : List ℕ) (n : ℕ) (counted : n ≡ length (bytes_of e (counted_of m))) where
  abbrev bs : List ℕ
  bs = bytes_of e m

  abbrev number : ℕ
  number = first (write_rules m.«data» n out)

  long : length m.«data» ≤ 252 → n ≡ length bs
  long h = counted ∙ ap (λ (x : Message). length (bytes_of e x)) (counted_whole m h)

  -- where 17 holds, n is not asked for
  pub same_first : number ≡ first (write_rules m.«data» (length bs) out)
  unfolding pick
  same_first = go (too_much m.«data») refl
    where
      go : (b : Bool) → too_much m.«data» ≡ b → number ≡ first (write_rules m.«data» (length bs) out)
      go true q = rw q refl
      go false q = ap (λ (k : ℕ). first (write_rules m.«data» k out)) (long (ltb-false 252 (length m.«data») q))

  -- r is what the judge answered, and b whether that is a refusal
  module _ (r : Result Unit Refusal) (b : Bool) (judge : r ≡ judged tt number) (asked : b ≡ is_err r) where
    pub left : b ≡ true → out ≡ envelope_output e m out
    left t = of r judge (sym asked ∙ t)
      where
        of : (x : Result Unit Refusal) → x ≡ judged tt number → is_err x ≡ true → out ≡ envelope_output e m out
        of (Ok u) j h = absurd (true≢false (sym h))
        of (Err why) j h = (writes_judged bs out tt _ _ why (j ∙ ap (judged tt) same_first) refl (first_named (write_rules m.«data» (length bs) out) tt)).output

    module _ (f : b ≡ false) where
      zeroth : number ≡ 0
      zeroth = of r judge (sym asked ∙ f)
        where
          of : (x : Result Unit Refusal) → x ≡ judged tt number → is_err x ≡ false → number ≡ 0
          of (Ok u) j h = none_judged tt _ u j
          of (Err why) j h = absurd (true≢false h)

      none : NoneHolds (write_rules m.«data» n out)
      none = none_first (write_rules m.«data» n out) tt zeroth

      pub small : length m.«data» ≤ 252
      small = ltb-false 252 (length m.«data») none.0

      pub whole : n ≡ length bs
      whole = long small

      pub room : length bs ≤ length out
      room =
          let fits : n ≤ length out = ltb-false (length out) n none.1.0 in
          omega (arith, whole)

      -- so none of the rules of the message holds
      pub zero_first : 0 ≡ first (write_rules m.«data» (length bs) out)
      zero_first = sym zeroth ∙ same_first

      pub stored : (out' : List ℕ) → out' ≡ sets out 0 bs → out' ≡ envelope_output e m out
      stored out' eo = eo ∙ sets_over out bs room ∙ ap (λ (k : ℕ). write_output k bs out) zero_first
