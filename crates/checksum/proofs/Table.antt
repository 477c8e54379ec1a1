-- Four bits at once: the table's rule at each entry, and the step by it of any remainder.
-- Assumes nothing.
use mathlib.Core.Path.{◌≡◌, sym, ap, ap₂, ◌∙◌}
use mathlib.Core.List.{List}
use Prim.Native.Nat.{ℕ, zero, suc, ◌+◌, ◌/◌, ◌%◌, ◌<◌}
use native.Mathlib.Omega.{arith}
use native.Mathlib.Nat.{add-zero, zero-add}
use lib.Bits.{bit_xor}
use lib.ListN.{get_or}
use Rattle.checksum.specs.Crc.{crc_bits}
use Rattle.checksum.specs.Table.{entries, fours}
use Rattle.checksum.proofs.Remainder.{bits_at_once}

-- the rule of any such table, at each of its places
entry : (f : ℕ → ℕ) (n k j : ℕ) → j < n → get_or (entries f k n) j 0 ≡ f (k + j)
entry f zero k j h = absurd (omega arith)
entry f (suc n) k zero h = ap f (sym (add-zero k))
entry f (suc n) k (suc j) h =
    let e : suc k + j ≡ k + suc j = omega arith in
    entry f n (suc k) j (omega arith) ∙ ap f e

-- four bits of any remainder: the entry at its lowest four, and the others moved down
pub four_at_once : (poly : ℕ) (table : List ℕ) (k c : ℕ) → table ≡ fours poly → k ≡ c % 16 → bit_xor (c / 16) (get_or table k 0) ≡ crc_bits poly 4 c
unfolding fours
four_at_once poly table k c e at =
    ap₂ (λ (t : List ℕ) (j : ℕ). bit_xor (c / 16) (get_or t j 0)) e at
    ∙ ap (bit_xor (c / 16)) (entry (crc_bits poly 4) 16 0 (c % 16) (omega arith) ∙ ap (crc_bits poly 4) (zero-add (c % 16)))
    ∙ sym (bits_at_once poly 4 c)
