-- What every writer answers, and what the lent output holds afterwards.
-- Assumes nothing.
use Rattle.std.specs.Prelude.{ℕ, ◌≡◌, List, [], ◌∷◌, length, Result, Ok, Err}
use Rattle.wire.specs.Numbers.{over}
use Rattle.wire.specs.Answer.{answered, judged}
use Rattle.wire.specs.Told.{Told, accepted, refused}
use Rattle.wire.specs.Numbered.{number_of}
use Rattle.wire.specs.declared.refusals.Refusal.{Refusal}

-- the source's type of that name: the length, or the refusal
abbrev pub Written : Type 0
Written = Result ℕ Refusal

-- where the refusal is n (0 for none) and bs is what would be written: "Each returns its number and leaves every buffer and state
-- untouched."
abbrev pub write_answer : ℕ → List ℕ → Written
write_answer n bs = judged (length bs) n

abbrev pub write_output : ℕ → List ℕ → List ℕ → List ℕ
write_output n bs out = answered (λ _. out) (over out bs) n

-- the length
abbrev pub told_written : Written → Told
told_written (Ok n) = accepted (n ∷ [])
told_written (Err e) = refused (number_of e)

-- "Each returns its number": the one that is told is n, so each rule's number is a refusal's (`named`)
pub record Writes (n : ℕ) (bs out : List ℕ) (r : Written) (out' : List ℕ) : Type 0 where
  pub answer : r ≡ write_answer n bs
  pub output : out' ≡ write_output n bs out
  pub told : (told_written r).number ≡ n
