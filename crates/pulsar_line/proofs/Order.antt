-- First in order and only when its condition holds: the number told is that of the first rule.
-- Assumes nothing.
use mathlib.Core.Path.{refl}
use Prim.Native.Nat.{ℕ}
use Rattle.wire.specs.Refusal.{FirstInOrder}
use Rattle.wire.specs.Answer.{refuse}
use Rattle.wire.proofs.Answer.{named_first}
use Rattle.pulsar_line.specs.Collect.{Pushed, Silenced, collector_rules, pushed, silenced, told_pushed, told_handed}
use Rattle.pulsar_line.specs.declared.Collector.{Collector}

pub push_first : (c : Collector) (b : ℕ) → FirstInOrder (collector_rules c) (told_pushed (pushed c b)).number
unfolding pushed
push_first c b =
    named_first {A = Pushed} (λ n. record { answer = refuse n; state = c }) _ (λ p. (told_pushed p).number) (λ n. refl) (collector_rules c) tt refl

pub silence_first : (c : Collector) → FirstInOrder (collector_rules c) (told_handed (silenced c)).number
unfolding silenced
silence_first c =
    named_first {A = Silenced} (λ n. record { answer = refuse n; state = c }) _ (λ h. (told_handed h).number) (λ n. refl)
    (collector_rules c) tt refl
