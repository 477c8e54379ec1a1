-- The answers, where the state is unfit and where it is not.
-- Assumes nothing.
use mathlib.Core.Path.{◌≡◌, sym, ◌∙◌}
use mathlib.Core.Bool.{Bool, true, false}
use Prim.Native.Nat.{ℕ, ◌+◌, ◌<◌, ◌≤◌}
use lib.ListN.{set, take}
use borrow.Author.Tests.{lt-ltb, le-ltb}
use Rattle.std.specs.Prelude.{Ok, Err}
use Rattle.wire.specs.Numbered.{refusal}
use Rattle.wire.specs.Refusal.{pick}
use Rattle.wire.specs.declared.refusals.Refusal.TheVariants.{Unfit}
use Rattle.pulsar_frame.specs.Reading.{missing}
use Rattle.pulsar_line.specs.Collect.{Pushed, Silenced, fresh, unfit, pushed, silenced}
use Rattle.pulsar_line.specs.declared.Collector.{Collector}

-- r is what a function answered that tests `unfit`
module _ (c : Collector) (r : Bool) (e : r ≡ unfit c.count) where
  pub push_unfit : (b : ℕ) → r ≡ true → ◌≡◌ {A = Pushed} (record { answer = Err Unfit; state = c }) (pushed c b)
  unfolding pushed pick refusal
  push_unfit b t = rw (sym e ∙ t)

  pub push_added : (b : ℕ) → r ≡ false → c.count < 255 → ◌≡◌ {A = Pushed} (record { answer = Ok tt; state = record { bytes = set c.bytes c.count b; count = c.count + 1 } }) (pushed c b)
  unfolding pushed pick
  push_added b t h = rw (sym e ∙ t, lt-ltb c.count 255 h)

  pub push_dropped : (b : ℕ) → r ≡ false → 255 ≤ c.count → ◌≡◌ {A = Pushed} (record { answer = Ok tt; state = c }) (pushed c b)
  unfolding pushed pick
  push_dropped b t h = rw (sym e ∙ t, le-ltb c.count 255 h)

  pub silence_unfit : r ≡ true → ◌≡◌ {A = Silenced} (record { answer = Err Unfit; state = c }) (silenced c)
  unfolding silenced pick refusal
  silence_unfit t = rw (sym e ∙ t)

  pub silence_fit : (lack : ℕ) (d : Collector) → r ≡ false → lack ≡ missing (take c.count c.bytes) → d ≡ fresh
      → ◌≡◌ {A = Silenced} (record { answer = Ok (record { bytes = c.bytes; count = c.count; missing = lack }); state = d }) (silenced c)
  unfolding silenced pick
  silence_fit lack d t m f = rw (sym e ∙ t, m, f)
