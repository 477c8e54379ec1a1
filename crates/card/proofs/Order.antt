-- First in order and only when its condition holds: the number told is that of the first rule, for the judge, the reader and the writer.
-- Assumes nothing.
use mathlib.Core.Path.{◌≡◌, refl, sym}
use mathlib.Core.List.{List}
use Prim.Native.Nat.{ℕ}
use Rattle.wire.specs.Refusal.{first, FirstInOrder}
use Rattle.std.specs.Prelude.{Result, Ok}
use Rattle.wire.specs.Answer.{refuse, judged, told_judged}
use Rattle.wire.specs.Writes.{Written, Writes, told_written}
use Rattle.wire.proofs.Answer.{told_number, named_first, judged_first}
use Rattle.wire.proofs.Rules.{in_order}
use Rattle.wire.proofs.Writes.{written_first}
use Rattle.card.specs.Layout.{card_bytes, card_of}
use Rattle.card.specs.Reading.{read_rules, read_card, told_card_read}
use Rattle.card.specs.Writing.{write_rules}
use Rattle.card.specs.declared.Card.{Card}
use Rattle.wire.specs.declared.refusals.Refusal.{Refusal}

pub number_first : (s : List ℕ) (r : ℕ) → r ≡ first (read_rules s) → FirstInOrder (read_rules s) r
number_first s r e = in_order (read_rules s) r tt (sym e)

-- r is what `fault_of` answers
pub fault_first : (s : List ℕ) (r : Result Unit Refusal) → r ≡ judged tt (first (read_rules s)) → FirstInOrder (read_rules s) (told_judged r).number
fault_first s r e = judged_first (read_rules s) r tt e

-- the number that the reader tells is the first rule's
pub read_told : (s : List ℕ) → first (read_rules s) ≡ (told_card_read (read_card s)).number
unfolding read_card
read_told s = told_number refuse (Ok (card_of s)) (λ x. (told_card_read x).number) (λ n. refl) (read_rules s) tt refl

pub read_first : (s : List ℕ) → FirstInOrder (read_rules s) (told_card_read (read_card s)).number
unfolding read_card
read_first s = named_first refuse (Ok (card_of s)) (λ x. (told_card_read x).number) (λ n. refl) (read_rules s) tt refl

pub write_first : (c : Card) (out : List ℕ) (r : Written) (out' : List ℕ) → Writes (first (write_rules c out)) (card_bytes c) out r out'
    → FirstInOrder (write_rules c out) (told_written r).number
write_first c out r out' w = written_first (write_rules c out) _ out r out' tt w
