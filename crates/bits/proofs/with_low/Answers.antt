-- `bits::with_low` meets its contract.
use mathlib.Core.Path.{ap, ◌∙◌, subst, sym}
use Prim.Native.Nat.{ℕ, ◌+◌, ◌*◌, ◌%◌, ◌^◌, ◌<◌}
use native.Mathlib.Nat.{le_of_lt}
use native.Mathlib.Omega.{arith}
use lib.Pow.{pow_pos}
use Rattle.bits.proofs.Cut.{with_fits, with_few, with_many, one_shifted}
use Rattle.bits.proofs.with_low.Goals as goal

pub nonzero_rem-result : goal.nonzero_rem-result
nonzero_rem-result c = subst (λ (m : ℕ). 0 < m) (sym (one_shifted c.args.n c.if-n-lt64.true)) (pow_pos c.args.n)

pub overflow_add-result : goal.overflow_add-result
overflow_add-result c =
    let a = c.args in
    record {
      fits =
          subst (λ (m : ℕ). a.v * 2 ^ a.n % 2 ^ 64 + a.x % m < 2 ^ 64) (sym (one_shifted a.n c.if-n-lt64.true)) (with_fits a.v a.n a.x (le_of_lt c.if-n-lt64.true));
    }

pub returns-then-n-lt64 : goal.returns-then-n-lt64
returns-then-n-lt64 c =
    let a = c.args in
    ap (λ (m : ℕ). a.v * 2 ^ a.n % 2 ^ 64 + a.x % m) (one_shifted a.n c.if-n-lt64.true) ∙ with_few a.v a.n a.x (le_of_lt c.if-n-lt64.true)

pub returns-else-n-lt64 : goal.returns-else-n-lt64
returns-else-n-lt64 c =
    let a = c.args in
    with_many a.v a.n a.x c.if-n-lt64.false (omega arith)
