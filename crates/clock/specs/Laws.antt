-- What holds of a difference that is answered.
-- Assumes nothing.
use Rattle.std.specs.Prelude.{◌≤◌, ◌≡◌, not, ℤ, pos, neg_ℤ, ◌+ℤ◌, nat_abs}
use Rattle.std.specs.Int.Signed.{non_neg}
use Rattle.date.specs.Date.{date_bytes}
use Rattle.date.specs.declared.DateTime.{DateTime}
use Rattle.clock.specs.Seconds.{seconds_since2000, is_before}
use Rattle.clock.specs.Clock.{clock_difference}
use Rattle.std.specs.Prelude.{Ok}

-- of an answer of z seconds: "Swapping the two dates negates the answer, and adding back the cabinet's seconds since 2000 gives the meter's.";
-- "The largest difference is 3,155,759,999 either way."; and it is 0 exactly when the dates are the same, and negative exactly when the meter's is before the cabinet's
pub record TrueDifference (meter cabinet : DateTime) (z : ℤ) : Type 0 where
  pub swapped : clock_difference cabinet meter ≡ Ok (neg_ℤ z)
  pub added_back : z +ℤ pos (seconds_since2000 cabinet) ≡ pos (seconds_since2000 meter)
  pub largest : nat_abs z ≤ 3155759999
  pub same : (z ≡ pos 0 → meter ≡ cabinet) × (meter ≡ cabinet → z ≡ pos 0)
  pub slow : not (non_neg z) ≡ is_before (date_bytes meter) (date_bytes cabinet)
