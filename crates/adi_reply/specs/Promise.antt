-- What the round trips speak of.
-- Assumes nothing.
use Rattle.std.specs.Prelude.{ℕ, ◌≡◌, List, [], ◌∷◌, ◌++◌, length, Ok}
use Rattle.adi.specs.Groups.{at_place}
use Rattle.adi_reply.specs.Reading.{read_reply, registers_at}
use Rattle.adi_reply.specs.declared.Reply.TheVariants.{Groups}

-- the bytes are read as groups with these register bytes: so many, and those at each place
pub record Says (s : List ℕ) (rs : List (List ℕ)) : Type 0 where
  pub count : read_reply s ≡ Ok (Groups (length rs))
  pub each : (place : ℕ) → registers_at s place ≡ at_place [] rs place

-- the register bytes of all groups, as a writer is given them
abbrev pub joined : List (List ℕ) → List ℕ
joined [] = []
joined (r ∷ rs) = r ++ joined rs
