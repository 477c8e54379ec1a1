-- First in order and only when its condition holds: the number told is that of the first rule, for the reader, the writer and both moves.
-- Assumes nothing.
use mathlib.Core.Path.{◌≡◌, refl}
use mathlib.Core.List.{List}
use Prim.Native.Nat.{ℕ}
use Rattle.std.specs.Prelude.{Ok}
use Rattle.wire.specs.Answer.{refuse}
use Rattle.wire.specs.Refusal.{first, FirstInOrder}
use Rattle.wire.specs.Writes.{Written, Writes, told_written}
use Rattle.wire.proofs.Answer.{told_number, named_first}
use Rattle.wire.proofs.Writes.{written_first}
use Rattle.card.specs.declared.Card.{Card}
use Rattle.archive_card.specs.Layout.{archive_bytes, archive_card_of}
use Rattle.archive_card.specs.Reading.{archive_rules, read_archive_card, told_archive_card_read, archive_write_rules}
use Rattle.archive_card.specs.Moving.{new_bytes, new_rules, old_bytes, old_rules}

-- the number that the reader tells is the first rule's
pub read_told : (s : List ℕ) → first (archive_rules s) ≡ (told_archive_card_read (read_archive_card s)).number
unfolding read_archive_card
read_told s = told_number refuse (Ok (archive_card_of s)) (λ x. (told_archive_card_read x).number) (λ n. refl) (archive_rules s) tt refl

pub read_first : (s : List ℕ) → FirstInOrder (archive_rules s) (told_archive_card_read (read_archive_card s)).number
unfolding read_archive_card
read_first s = named_first refuse (Ok (archive_card_of s)) (λ x. (told_archive_card_read x).number) (λ n. refl) (archive_rules s) tt refl

pub write_first : (c : Card) (kind : ℕ) (out : List ℕ) (r : Written) (out' : List ℕ) → Writes (first (archive_write_rules c kind out)) (archive_bytes c kind) out r out'
    → FirstInOrder (archive_write_rules c kind out) (told_written r).number
write_first c kind out r out' w = written_first (archive_write_rules c kind out) _ out r out' tt w

pub new_first : (s out : List ℕ) (r : Written) (out' : List ℕ) → Writes (first (new_rules s out)) (new_bytes s) out r out' → FirstInOrder (new_rules s out) (told_written r).number
new_first s out r out' w = written_first (new_rules s out) _ out r out' tt w

pub old_first : (s out : List ℕ) (r : Written) (out' : List ℕ) → Writes (first (old_rules s out)) (old_bytes s) out r out' → FirstInOrder (old_rules s out) (told_written r).number
old_first s out r out' w = written_first (old_rules s out) _ out r out' tt w
