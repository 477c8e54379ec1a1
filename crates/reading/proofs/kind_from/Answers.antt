-- `reading::kind_from` meets its contract.
use mathlib.Core.Path.{◌≡◌, refl}
use Prim.Native.Nat.{ℕ, zero, suc}
use Rattle.reading.specs.Reading.{kind_from}
use Rattle.reading.specs.declared.Kind.TheVariants.{U64}

-- 3, and what is no number of two bits

other : (n : ℕ) → (n ≡ 0 → ⊥) → (n ≡ 1 → ⊥) → (n ≡ 2 → ⊥) → U64 ≡ kind_from n
other zero a b c = absurd (a refl)
other (suc zero) a b c = absurd (b refl)
other (suc (suc zero)) a b c = absurd (c refl)
other (suc (suc (suc n))) a b c = refl
