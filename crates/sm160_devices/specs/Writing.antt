-- Writing a line of the device list.
-- Assumes nothing.
use Rattle.std.specs.Prelude.{ℕ, Bool, ◌||◌, List, [], ◌∷◌, ltb, length}
use Rattle.wire.specs.Refusal.{Rule, ◌when◌}
use Rattle.sm160_text.specs.Layout.{bad_text, device_bytes}

-- 92 writing: a text with a quote or line feed
abbrev pub bad_texts : List ℕ → List ℕ → List ℕ → Bool
bad_texts d k s = bad_text d || bad_text k || bad_text s

-- 16 output shorter than needed
unfoldable pub no_room : List ℕ → List ℕ → List ℕ → ℕ → Bool
no_room d k s room = ltb room (length (device_bytes d k s))

abbrev pub device_rules : List ℕ → List ℕ → List ℕ → List ℕ → List Rule
device_rules d k s out = 92 when bad_texts d k s ∷ 16 when no_room d k s (length out) ∷ []
