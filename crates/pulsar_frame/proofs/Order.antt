-- First in order and only when its condition holds: the number told is that of the first rule, for both readers and both writers.
-- Assumes nothing.
use mathlib.Core.Path.{refl}
use mathlib.Core.List.{List}
use Prim.Native.Nat.{ℕ}
use Rattle.std.specs.Prelude.{Ok, Err}
use Rattle.wire.specs.Refusal.{FirstInOrder}
use Rattle.wire.specs.Writes.{Written, told_written}
use Rattle.wire.proofs.Answer.{named_first}
use Rattle.wire.proofs.Writes.{written_first}
use Rattle.pulsar_frame.specs.Reading.{meter_rules, master_rules, missing, frame_of, refusal, read_at_meter, read_at_master, told_frame_read}
use Rattle.pulsar_frame.specs.Writing.{request_rules, reply_rules, WritesRequest, WritesReply}
use Rattle.pulsar_frame.proofs.OnItsWay.{refusal_tells}

pub meter_first : (own : ℕ) (s : List ℕ) → FirstInOrder (meter_rules own s) (told_frame_read (read_at_meter own s)).number
unfolding read_at_meter
meter_first own s =
    named_first (λ n. Err (refusal (missing s) n)) (Ok (frame_of s)) (λ r. (told_frame_read r).number) (refusal_tells (missing s)) (meter_rules own s) tt refl

pub master_first : (address function id : ℕ) (s : List ℕ)
    → FirstInOrder (master_rules address function id s) (told_frame_read (read_at_master address function id s)).number
unfolding read_at_master
master_first address function id s =
    named_first (λ n. Err (refusal (missing s) n)) (Ok (frame_of s)) (λ r. (told_frame_read r).number) (refusal_tells (missing s)) (master_rules address function id s) tt refl

pub request_first : (address function id : ℕ) (payload out : List ℕ) (r : Written) (out' : List ℕ)
    → WritesRequest address function id payload out r out' → FirstInOrder (request_rules address function payload out) (told_written r).number
request_first address function id payload out r out' w =
    written_first (request_rules address function payload out) _ out r out' tt w

pub reply_first : (own function id : ℕ) (payload out : List ℕ) (r : Written) (out' : List ℕ)
    → WritesReply own function id payload out r out' → FirstInOrder (reply_rules own payload out) (told_written r).number
reply_first own function id payload out r out' w = written_first (reply_rules own payload out) _ out r out' tt w
