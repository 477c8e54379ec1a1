-- `adi_reply::total_of` meets its contract.
use mathlib.Core.Path.{◌≡◌, sym, ◌∙◌}
use Prim.Native.Nat.{ℕ}
use native.Mathlib.Omega.{arith}
use borrow.Author.Rules.{rules}
use Rattle.std.specs.Prelude.{sum}
use Rattle.std.proofs.lemmas.Iterator.{YieldsList-from_slice, YieldsList-from_map}
use Rattle.std.proofs.lemmas.Iterator.Consumers.{sum_by_from_yields_List}
use Rattle.adi_reply.proofs.Judging.{total_is, total_most}
use Rattle.adi_reply.proofs.total_of.Goals as goal

pub returns : goal.returns
returns c =
    let ns = c.args.lengths.now in
    let all : c.sum.result ≡ sum ns =
    sum_by_from_yields_List (λ (n : ℕ). n) ns _ _ c.sum.ensures.ran
    (YieldsList-from_map _ (λ (n : ℕ). n) (YieldsList-from_slice ns cc) c.map.ensures.closure (λ x r q k. search rules))
    in
    let is = all ∙ sym (total_is ns) in
    (is, omega (arith, is, total_most ns (λ (i : ℕ). (c.type_inv.lengths i).fits), c.requires))
