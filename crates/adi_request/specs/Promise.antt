-- What the round trips speak of.
-- Assumes nothing.
use Rattle.std.specs.Prelude.{ℕ, ◌<◌, ◌≡◌, List, [], ◌∷◌, map, length, Ok, None, Some}
use Rattle.adi.specs.Groups.{at_place}
use Rattle.adi_request.specs.Reading.{read_request, asked_at}
use Rattle.adi_request.specs.declared.Asked.{Asked}

-- the bytes are read as these groups: so many, and at each place what is asked for there
pub record Says (s : List ℕ) (asks : List Asked) : Type 0 where
  pub count : read_request s ≡ Ok (length asks)
  pub each : (place : ℕ) → asked_at s place ≡ at_place None (map Some asks) place

-- the numbers of each group have 16 bits
abbrev pub Words : List Asked → Type 0
Words [] = Unit {0}
Words (a ∷ asks) = ((a.file < 65536) × (a.«record» < 65536) × (a.length < 65536)) × Words asks
