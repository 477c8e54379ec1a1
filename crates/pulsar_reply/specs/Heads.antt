-- What `pulsar_body::Body` asks of replies, shown: the head that a reply has is as long as its form says, it is short, and each rule of the fields
-- has a refusal's number.
-- Assumes nothing.
use mathlib.Core.Path.{◌≡◌, refl}
use lib.Dec.{T}
use lib.ListN.{length, length-append}
use Prim.Native.Nat.{ℕ, ◌≤◌}
use native.Mathlib.Omega.{arith}
use Rattle.wire.specs.Refusal.{named}
use Rattle.wire.proofs.Numbers.{length_le}
use Rattle.pulsar_reply.specs.Layout.{function_of, head_bytes, head_length}
use Rattle.pulsar_reply.specs.Writing.{field_faults}
use Rattle.pulsar_reply.specs.declared.Reply.{Reply}
use Rattle.pulsar_reply.specs.declared.Reply.TheVariants as P
use Rattle.pulsar_reply.specs.declared.Function.{Function}
use Rattle.pulsar_reply.specs.declared.Function.TheVariants as F

pub length_head : (q : Reply) → length (head_bytes q) ≡ head_length (function_of q)
length_head (P.Error n) = refl
length_head P.Channels = refl
length_head (P.ChannelsWritten mask) = length_le 4 mask
length_head (P.Clock d) = refl
length_head P.NoClock = refl
length_head (P.ClockSet status) = refl
length_head (P.Archive a) = simp (length-append, length_le)
length_head P.Parameter = refl
length_head P.ParameterWritten = refl

pub head_le : (f : Function) → head_length f ≤ 10
head_le F.Error = omega arith
head_le F.Channels = omega arith
head_le F.ChannelsWritten = omega arith
head_le F.Clock = omega arith
head_le F.ClockSet = omega arith
head_le F.Archive = omega arith
head_le F.Parameter = omega arith
head_le F.ParameterWritten = omega arith

pub head_few : (f : Function) → head_length f ≤ 245
head_few f = omega (arith, head_le f)

pub named_faults : (q : Reply) (mask : ℕ) → T (named (field_faults q mask))
named_faults (P.Error n) mask = tt
named_faults P.Channels mask = tt
named_faults (P.ChannelsWritten m) mask = tt
named_faults (P.Clock d) mask = tt
named_faults P.NoClock mask = tt
named_faults (P.ClockSet status) mask = tt
named_faults (P.Archive a) mask = tt
named_faults P.Parameter mask = tt
named_faults P.ParameterWritten mask = tt
