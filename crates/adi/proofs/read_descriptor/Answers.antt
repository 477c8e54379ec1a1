-- `adi::read_descriptor` meets its contract.
use mathlib.Core.Path.{◌≡◌, refl, sym, ap, ◌∙◌}
use Prim.Native.Nat.{ℕ}
use Rattle.std.proofs.lemmas.Result.{err_from_is_err_and}
use Rattle.wire.specs.Answer.{judged}
use Rattle.wire.specs.Refusal.{first}
use Rattle.wire.specs.Numbered.{refusal}
use Rattle.wire.proofs.Answer.{refuses, passes, accepted_as}
use Rattle.adi.specs.Descriptor.{contents_from, contents_of, contents_rules, read_descriptor}
use Rattle.adi.proofs.Handed.{goes_back, goes_on}
use Rattle.adi.proofs.Order.{in_parts}
use Rattle.adi.proofs.read_descriptor.Goals as goal

pub returns-then-no_descriptor : goal.returns-then-no_descriptor
unfolding read_descriptor refusal
returns-then-no_descriptor c =
    refuses _ _ _ 84 _ _ c.no_descriptor.ensures c.if-no_descriptor.true refl ∙ ap (judged _) (in_parts c.args.registers.now)

pub returns-in_err-try_from : goal.returns-in_err-try_from
unfolding read_descriptor
returns-in_err-try_from c =
    let kind = c.in_err-try_from.ensures ∙ ap (λ (n : ℕ). judged (contents_from n) (first (contents_rules n))) c.be16_at-5.ensures in
    let p = err_from_is_err_and c.from_residual.result c.from_residual.ensures.1 in
    rw (p.1, p.2)
    (passes _ _ _ 84 _ _ c.no_descriptor.ensures c.if-no_descriptor.false (goes_back _ _ _ _ _ kind refl) ∙ ap (judged _) (in_parts c.args.registers.now))

pub returns : goal.returns
unfolding read_descriptor
returns c =
    let s = c.args.registers.now in
    let kind = c.in_ok-try_from.ensures ∙ ap (λ (n : ℕ). judged (contents_from n) (first (contents_rules n))) c.be16_at-5.ensures in
    let is : contents_from (contents_of s) ≡ c.in_ok-try_from.field-0 = (accepted_as _ _ _ (sym kind)).1 in
    passes _ _ _ 84 _ _ c.no_descriptor.ensures c.if-no_descriptor.false (goes_on _ _ _ _ _ _ kind refl (cc)) ∙ ap (judged _) (in_parts s)
