-- The line collector.
-- Assumes nothing.
use Rattle.std.specs.Prelude.{ℕ, ◌+◌, Bool, true, false, List, [], ◌∷◌, ◌++◌, ltb, length, take, replicate, set, Result, Ok, Err}
use Rattle.wire.specs.Answer.{answered, refuse}
use Rattle.wire.specs.Numbered.{number_of}
use Rattle.wire.specs.Numbers.{over}
use Rattle.wire.specs.Refusal.{Rule, ◌when◌, first}
use Rattle.wire.specs.Told.{Told, accepted, refused}
use Rattle.pulsar_frame.specs.Reading.{missing}
use Rattle.pulsar_line.specs.declared.Collector.{Collector}
use Rattle.pulsar_line.specs.declared.Answered.{Answered}
use Rattle.pulsar_line.specs.declared.Handed.{Handed}
use Rattle.wire.specs.declared.refusals.Refusal.{Refusal}

-- "The line collector starts as a frame buffer of 255 zero bytes and count 0"
abbrev pub zeros : List ℕ
zeros = replicate 255 0

abbrev pub fresh : Collector
fresh = record { bytes = zeros; count = 0 }

-- 20 state unfit: .. collector's count above 255
abbrev pub unfit : ℕ → Bool
unfit count = ltb 255 count

abbrev pub collector_rules : Collector → List Rule
collector_rules c = 20 when unfit c.count ∷ []

-- "each byte is added, bytes after the 255th are dropped"
abbrev pub added : Bool → Collector → ℕ → Collector
added true c b = record { bytes = set c.bytes c.count b; count = c.count + 1 }
added false c b = c

-- the source's types of these names
abbrev pub Pushed : Type 0
Pushed = Answered Unit

abbrev pub Silenced : Type 0
Silenced = Answered Handed

-- a byte from the line; "Each returns its number and leaves every buffer and state untouched."
unfoldable pub pushed : Collector → ℕ → Pushed
pushed c b =
    answered (λ n. record { answer = refuse n; state = c })
    (record { answer = Ok tt; state = added (ltb c.count 255) c b })
    (first (collector_rules c))

-- "silence hands the collected bytes over and starts afresh"; "At silence the line collector tells" the missing count of them; where it is refused
-- nothing is handed over
unfoldable pub silenced : Collector → Silenced
silenced c =
    answered (λ n. record { answer = refuse n; state = c })
    (record { answer = Ok (record { bytes = c.bytes; count = c.count; missing = missing (take c.count c.bytes) }); state = fresh })
    (first (collector_rules c))

-- ---- the paper's number and values: of a silence, the missing count and the collected bytes
abbrev pub told_answer : {A : Type 0} → (A → List ℕ) → Result A Refusal → Told
told_answer values (Ok x) = accepted (values x)
told_answer values (Err why) = refused (number_of why)

abbrev pub told_pushed : Pushed → Told
told_pushed p = told_answer (λ u. []) p.answer

abbrev pub collected_of : Handed → List ℕ
collected_of h = take h.count h.bytes

abbrev pub told_handed : Silenced → Told
told_handed s = told_answer (λ h. h.missing ∷ collected_of h) s.answer

-- what is handed over, where it is refused no byte, of which none lack
abbrev pub handed_bytes : Silenced → List ℕ
handed_bytes s = bytes_of s.answer
  where
    bytes_of : Result Handed Refusal → List ℕ
    bytes_of (Ok h) = collected_of h
    bytes_of (Err why) = []

abbrev pub handed_missing : Silenced → ℕ
handed_missing s = missing_of s.answer
  where
    missing_of : Result Handed Refusal → ℕ
    missing_of (Ok h) = h.missing
    missing_of (Err why) = 0

-- ---- what the promise speaks of

-- what comes from the line
pub data Event : Type 0 where
  byte : ℕ → Event
  quiet : Event

-- the collector after some events
abbrev pub after : Collector → List Event → Collector
after c [] = c
after c (byte b ∷ es) = after (pushed c b).state es
after c (quiet ∷ es) = after (silenced c).state es

-- the bytes since the last silence, where bs came before the events
abbrev pub since : List ℕ → List Event → List ℕ
since bs [] = bs
since bs (byte b ∷ es) = since (bs ++ (b ∷ [])) es
since bs (quiet ∷ es) = since [] es

-- what is handed over where xs was collected
abbrev pub handing : List ℕ → Silenced
handing xs = record { answer = Ok (record { bytes = over zeros xs; count = length xs; missing = missing xs }); state = fresh }
