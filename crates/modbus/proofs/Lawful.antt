-- What an envelope must meet, so that it keeps the promises: of its head, its tail and its way on the line alone.
-- Assumes nothing.
use Prim.Native.Nat.{ℕ, ◌-◌, ◌≤◌}
use mathlib.Core.Path.{◌≡◌}
use mathlib.Core.List.{List}
use lib.Dec.{T}
use lib.ListN.{length, drop}
use Rattle.wire.specs.Each.{Bytes}
use Rattle.wire.specs.Refusal.{Rule, NoneHolds, numbered}
use Rattle.modbus.specs.Envelope.{Message, Envelope, content_of, plain_of, bytes_of, said_by, line_length}
use Rattle.modbus.specs.Promise.{Fits}

pub record Lawful (e : Envelope) (rules : List ℕ → List Rule) : Type 0 where
  -- lengths
  pub head_length_lem : (c : List ℕ) → length (e.head c) ≡ e.before
  pub tail_length : (c : List ℕ) → length (e.tail c) ≡ e.after
  pub line_length_lem : (p : List ℕ) → length (e.on_line p) ≡ e.size (length p)
  pub size_up : (n k : ℕ) → n ≤ k → e.size n ≤ e.size k
  pub size_down : (n k : ℕ) → e.size n ≤ e.size k → n ≤ k
  -- no rule has the number 0, and two of them are the limits: no data, and 252 bytes of it
  pub rules_numbered : (s : List ℕ) → T (numbered (rules s))
  pub limits : (s : List ℕ) → NoneHolds (rules s) → (line_length e 0 ≤ length s) × (length s ≤ line_length e 252)
  -- of what is written
  pub line_there : (m : Message) → Fits m → e.of_line (bytes_of e m) ≡ plain_of e m
  pub faultless : (m : Message) → Fits m → line_length e 0 ≤ length (bytes_of e m) → length (bytes_of e m) ≤ line_length e 252 → NoneHolds (rules (bytes_of e m))
  -- of what is accepted
  pub line_bytes_lem : (s : List ℕ) → Bytes s → Bytes (e.of_line s)
  pub line_back : (s : List ℕ) → Bytes s → NoneHolds (rules s) → e.on_line (e.of_line s) ≡ s
  pub tail_back : (s : List ℕ) → Bytes s → NoneHolds (rules s)
      → e.tail (content_of (said_by e s)) ≡ drop (length (e.of_line s) - e.after) (e.of_line s)
