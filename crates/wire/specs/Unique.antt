-- That no second answer would do. `Post` is a function's contract as its source states it (made from it as FUNCTION.Reads.Post): what
-- holds of the lifetimes, the arguments, the answer and the references at exit. Where two answers meet it, they show the same.
-- Assumes nothing.
use Rattle.std.specs.Prelude.{◌≡◌}

-- `shown` is the answer, and with it what each lent slice holds at exit
abbrev pub Unique : {L : Type 0} {A R S Y : L → Type 0} → ((κs : L) → A κs → R κs → S κs → Type 0) → ((κs : L) → R κs → S κs → Y κs) → Type 0
Unique {L} {A} {R} {S} Post shown = (κs : L) (a : A κs) (r r' : R κs) (s s' : S κs) → Post κs a r s → Post κs a r' s' → shown κs r s ≡ shown κs r' s'
