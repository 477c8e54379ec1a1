-- Laws of the CRC-32: over two stretches in turn, of nothing, its bound, and its published check value.
-- Assumes nothing.
use mathlib.Core.Path.{◌≡◌, refl, sym, ap, ◌∙◌}
use mathlib.Core.List.{List, [], ◌∷◌, ◌++◌}
use Prim.Native.Nat.{ℕ, ◌<◌}
use native.Mathlib.Omega.{arith}
use lib.Bits.{bit_xor, xor_lt, xor_self, xor_zero_r}
use lib.Dec.{lit<}
use Rattle.wire.specs.Each.{Bytes}
use Rattle.checksum.specs.Crc.{crc_bits, remainder}
use Rattle.checksum.specs.Crc32.{CRC32, turned, crc32_from, crc32}
use Rattle.checksum.proofs.Xor.{xor_assoc}
use Rattle.checksum.proofs.Remainder.{remainder_append, remainder_lt}

turned_back : (c : ℕ) → turned (turned c) ≡ c
turned_back c = xor_assoc c 0xFFFFFFFF 0xFFFFFFFF ∙ ap (bit_xor c) (xor_self 0xFFFFFFFF) ∙ xor_zero_r c

-- a message cut in two anywhere, also at its ends: the second stretch goes on from the CRC-32 of the first
pub crc32_append : (c : ℕ) (xs ys : List ℕ) → crc32_from c (xs ++ ys) ≡ crc32_from (crc32_from c xs) ys
unfolding crc32_from
crc32_append c xs ys =
    let r = remainder CRC32 (turned c) xs in
    ap turned (remainder_append CRC32 (turned c) xs ys ∙ ap (λ (k : ℕ). remainder CRC32 k ys) (sym (turned_back r)))

pub crc32_of_nothing : (c : ℕ) → crc32_from c [] ≡ c
unfolding crc32_from remainder
crc32_of_nothing c = turned_back c

-- it fits 32 bits
pub crc32_lt : (bs : List ℕ) → Bytes bs → crc32 bs < 4294967296
unfolding crc32_from
crc32_lt bs hb =
    xor_lt 32 (remainder CRC32 0xFFFFFFFF bs) 0xFFFFFFFF (remainder_lt CRC32 32 (lit< tt) 0xFFFFFFFF bs (omega arith) (lit< tt) hb) (lit< tt)

-- of ASCII 123456789
pub crc32_check : crc32 (0x31 ∷ 0x32 ∷ 0x33 ∷ 0x34 ∷ 0x35 ∷ 0x36 ∷ 0x37 ∷ 0x38 ∷ 0x39 ∷ []) ≡ 0xCBF43926
unfolding crc32_from remainder crc_bits
crc32_check = refl
