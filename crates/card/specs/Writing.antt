-- Writing a card of any form: field faults by their numbers, then 16. A reading that is an enum cannot have 54.
-- Assumes nothing.
use Rattle.std.specs.Prelude.{ℕ, Bool, ◌||◌, List, [], ◌∷◌, ◌++◌, eqb, ltb, length}
use Rattle.wire.specs.Refusal.{Rule, ◌when◌}
use Rattle.card.specs.Layout.{Form, card_form}
use Rattle.card.specs.Reading.{bad_address, bad_time}
use Rattle.card.specs.declared.Card.{Card}

-- 55 channel not 1..32 (writing only)
abbrev pub bad_channel : ℕ → Bool
bad_channel channel = eqb channel 0 || ltb 32 channel

-- of the ten fields
abbrev pub card_rules : Card → List Rule
card_rules c =
    52 when bad_address c.address
    ∷ 53 when bad_time c.time
    ∷ 55 when bad_channel c.channel
    ∷ []

-- 16 output shorter than needed
abbrev pub too_small : ℕ → List ℕ → Bool
too_small size out = ltb (length out) size

-- "writing, field faults first .. then 16"
abbrev pub form_write_rules : Form → Card → List ℕ → List ℕ → List Rule
form_write_rules f c own out = card_rules c ++ (f.rules own ++ (16 when too_small f.size out ∷ []))

-- ---- the card of 17 bytes
abbrev pub write_rules : Card → List ℕ → List Rule
write_rules c out = form_write_rules card_form c [] out
