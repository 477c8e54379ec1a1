-- A card of 17 bytes that is written reads back, and bytes that are read as one, written again, are the same bytes: the law of forms.
-- Assumes nothing.
use mathlib.Core.Path.{◌≡◌, refl, ap, ◌∙◌}
use mathlib.Core.List.{List, [], ◌∷◌}
use Prim.Native.Nat.{ℕ, ◌≤◌}
use native.Mathlib.Omega.{arith}
use lib.ListN.{length, take}
use Rattle.wire.specs.Each.{Bytes}
use Rattle.wire.specs.Numbers.{over}
use Rattle.wire.specs.Refusal.{first}
use Rattle.wire.specs.Writes.{Written, Writes}
use Rattle.std.specs.Prelude.{Ok}
use Rattle.wire.proofs.Answer.{judged_none, accepted_as}
use Rattle.wire.proofs.Rules.{none_first, first_none}
use Rattle.bits.specs.Fields.{total, Fit}
use Rattle.reading.specs.Reading.{FitsKind}
use Rattle.card.specs.Layout.{card_of, Lawful, card_form, card_bytes}
use Rattle.card.specs.Reading.{Reads, read_rules, read_card}
use Rattle.card.specs.Writing.{write_rules}
use Rattle.card.specs.declared.Card.{Card}
use Rattle.card.proofs.Form.{form_reads_back, form_writes_again}

pub card_lawful : Lawful card_form
unfolding total
card_lawful = record { filled = refl; numbers = λ own. tt; fits = no_own }
  where
    no_own : (own : List ℕ) → length own ≡ 0 → Unit {0} → Fit [] own
    no_own [] e h = tt
    no_own (v ∷ vs) e h = absurd (omega arith)

pub card_reads_back : (c : Card) (out : List ℕ) (r : Written) (out' : List ℕ) (k : ℕ) → FitsKind c.value
    → Writes (first (write_rules c out)) (card_bytes c) out r out' → r ≡ Ok k → read_card (take k out') ≡ Ok c
unfolding read_card card_bytes
card_reads_back c out r out' k fits w e =
    let read = form_reads_back card_form card_lawful c [] out r out' k fits refl w e in
    judged_none (card_of (take k out')) _ (first_none (read_rules (take k out')) read.good) ∙ ap Ok read.card

-- what is answered as a card reads as one
pub read_as : (s : List ℕ) (c : Card) → read_card s ≡ Ok c → Reads card_form s c []
unfolding read_card
read_as s c e =
    let said = accepted_as (card_of s) (first (read_rules s)) c e in
    record { good = none_first (read_rules s) tt said.0; card = said.1; further = refl }

pub card_writes_again : (s : List ℕ) (c : Card) (out : List ℕ) (r : Written) (out' : List ℕ) → Bytes s → read_card s ≡ Ok c → 17 ≤ length out
    → Writes (first (write_rules c out)) (card_bytes c) out r out' → (r ≡ Ok 17) × (out' ≡ over out s)
unfolding card_bytes
card_writes_again s c out r out' bytes read room w = form_writes_again card_form card_lawful s c [] out r out' bytes (read_as s c read) room w
