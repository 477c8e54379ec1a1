-- First in order and only when its condition holds: the number told is that of the first rule. Of the writer that is `envelope_first` of modbus.
-- Assumes nothing.
use mathlib.Core.Path.{refl}
use mathlib.Core.List.{List}
use Prim.Native.Nat.{ℕ}
use Rattle.wire.specs.Refusal.{FirstInOrder}
use Rattle.wire.specs.Answer.{refuse}
use Rattle.wire.proofs.Answer.{named_first}
use Rattle.modbus.specs.Envelope.{said_by}
use Rattle.modbus_ascii.specs.Ascii.{ascii, read_rules, found_ascii, read_ascii, told_ascii_read}

pub ascii_first : (s out : List ℕ) → FirstInOrder (read_rules s out) (told_ascii_read (read_ascii s out)).number
unfolding read_ascii
ascii_first s out = named_first refuse (found_ascii (said_by ascii s)) (λ r. (told_ascii_read r).number) (λ n. refl) (read_rules s out) tt refl
