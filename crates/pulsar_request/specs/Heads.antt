-- What `pulsar_body::Body` asks of requests, shown: the head that a request has is as long as its form says, it is short, and each rule of the fields
-- has a refusal's number.
-- Assumes nothing.
use mathlib.Core.Path.{◌≡◌, refl}
use lib.Dec.{T}
use lib.ListN.{length, length-append}
use Prim.Native.Nat.{◌≤◌}
use native.Mathlib.Omega.{arith}
use Rattle.wire.specs.Refusal.{named}
use Rattle.wire.proofs.Numbers.{length_le}
use Rattle.pulsar_request.specs.Layout.{function_of, head_bytes, head_length}
use Rattle.pulsar_request.specs.Writing.{field_faults}
use Rattle.pulsar_request.specs.declared.Request.{Request}
use Rattle.pulsar_request.specs.declared.Request.TheVariants as Q
use Rattle.pulsar_request.specs.declared.Function.{Function}
use Rattle.pulsar_request.specs.declared.Function.TheVariants as F

pub length_head : (q : Request) → length (head_bytes q) ≡ head_length (function_of q)
length_head (Q.ReadChannels mask) = length_le 4 mask
length_head (Q.WriteChannels mask) = length_le 4 mask
length_head Q.ReadClock = refl
length_head (Q.SetClock d) = refl
length_head (Q.ReadArchive a) = simp (length-append, length_le)
length_head (Q.ReadParameter index) = length_le 2 index
length_head (Q.WriteParameter index) = length_le 2 index

pub head_le : (f : Function) → head_length f ≤ 18
head_le F.ReadChannels = omega arith
head_le F.WriteChannels = omega arith
head_le F.ReadClock = omega arith
head_le F.SetClock = omega arith
head_le F.ReadArchive = omega arith
head_le F.ReadParameter = omega arith
head_le F.WriteParameter = omega arith

pub head_few : (f : Function) → head_length f ≤ 245
head_few f = omega (arith, head_le f)

pub named_faults : (q : Request) → T (named (field_faults q))
named_faults (Q.ReadChannels mask) = tt
named_faults (Q.WriteChannels mask) = tt
named_faults Q.ReadClock = tt
named_faults (Q.SetClock d) = tt
named_faults (Q.ReadArchive a) = tt
named_faults (Q.ReadParameter index) = tt
named_faults (Q.WriteParameter index) = tt
