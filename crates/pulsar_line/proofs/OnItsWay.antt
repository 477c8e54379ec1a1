-- What the collector tells at silence is what the meter answers with 9 to the bytes that were handed over.
-- Assumes nothing.
use mathlib.Core.Path.{◌≡◌, refl, sym, ◌∙◌, subst}
use mathlib.Core.Bool.{Bool, true, false}
use mathlib.Core.List.{List, ◌++◌}
use Prim.Native.Nat.{ℕ, ◌<◌}
use lib.ListN.{length, take}
use Rattle.wire.specs.Refusal.{pick}
use Rattle.pulsar_frame.specs.Layout.{len_of}
use Rattle.pulsar_frame.specs.Promise.{TellsMissing}
use Rattle.pulsar_frame.specs.Reading.{missing, meter_rules, read_at_meter}
use Rattle.pulsar_frame.proofs.OnItsWay.{meter_tells_missing, made_whole}
use Rattle.pulsar_line.specs.Collect.{Silenced, unfit, silenced, handed_bytes, handed_missing}
use Rattle.pulsar_line.specs.declared.Collector.{Collector}
use Rattle.pulsar_line.proofs.Answers.{silence_unfit, silence_fit}

-- whatever the state; an unfit one hands no bytes over, of which none lack
told_of_handed : (c : Collector) → missing (handed_bytes (silenced c)) ≡ handed_missing (silenced c)
unfolding pick
told_of_handed c = go (unfit c.count) refl
  where
    go : (t : Bool) → t ≡ unfit c.count → missing (handed_bytes (silenced c)) ≡ handed_missing (silenced c)
    go true e = subst (λ (h : Silenced). missing (handed_bytes h) ≡ handed_missing h) (silence_unfit c true e refl) refl
    go false e = subst (λ (h : Silenced). missing (handed_bytes h) ≡ handed_missing h) (silence_fit c false e _ _ refl refl refl) refl

-- whatever the state and the meter's address: where the frame meets none of 1 to 4
pub silence_tells_missing : (own : ℕ) (c : Collector)
    → TellsMissing (read_at_meter own (handed_bytes (silenced c))) (take 4 (meter_rules own (handed_bytes (silenced c)))) (handed_missing (silenced c))
silence_tells_missing own c =
    let xs = handed_bytes (silenced c) in
    subst (TellsMissing (read_at_meter own xs) (take 4 (meter_rules own xs))) (told_of_handed c) (meter_tells_missing own xs)

-- that many bytes more make the frame whole: LEN is then the bytes received
pub more_makes_whole : (c : Collector) (more : List ℕ) → 0 < handed_missing (silenced c) → length more ≡ handed_missing (silenced c)
    → len_of (handed_bytes (silenced c) ++ more) ≡ length (handed_bytes (silenced c) ++ more)
more_makes_whole c more h e =
    let same = told_of_handed c in
    made_whole (handed_bytes (silenced c)) more (subst (λ (k : ℕ). 0 < k) (sym same) h) (e ∙ sym same)
