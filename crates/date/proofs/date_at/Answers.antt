-- `date::date_at` meets its contract.
-- six bytes from the front
use mathlib.Core.Path.{◌≡◌}
use mathlib.Core.List.{List}
use Prim.Native.Nat.{ℕ}
use lib.ListN.{get_or}
use Rattle.wire.specs.Numbers.{field}
use Rattle.wire.proofs.Turns.{read_at}
use Rattle.date.specs.Date.{date_of}
use Rattle.date.specs.declared.DateTime.{DateTime}
use Rattle.date.proofs.date_at.Goals as goal

six : (p : List ℕ) (a b c d e f : ℕ) → a ≡ get_or p 0 0 → b ≡ get_or p 1 0 → c ≡ get_or p 2 0 → d ≡ get_or p 3 0 → e ≡ get_or p 4 0 → f ≡ get_or p 5 0
    → ◌≡◌ {A = DateTime} (record { year = a; month = b; day = c; hour = d; minute = e; second = f }) (date_of (field p 0 6))
unfolding field
six p a b c d e f ea eb ec ed ee ef = cc

pub returns : goal.returns
returns c =
    read_at date_of _ _ _ 6 _ (six _ _ _ _ _ _ _ c.byte_at.ensures c.byte_at-2.ensures c.byte_at-3.ensures c.byte_at-4.ensures c.byte_at-5.ensures c.byte_at-6.ensures) c.rest-p.ensures
