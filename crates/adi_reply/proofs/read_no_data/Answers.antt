-- `adi_reply::read_no_data` meets its contract.
use mathlib.Core.Path.{refl, ap, ap₂, ◌∙◌}
use Prim.Native.Nat.{ℕ}
use Rattle.std.specs.Prelude.{Ok}
use Rattle.wire.specs.Numbered.{refusal}
use Rattle.wire.proofs.Answer.{refuses, passes}
use Rattle.adi_reply.specs.Layout.{length_of}
use Rattle.adi_reply.specs.Reading.{other_type}
use Rattle.adi_reply.specs.declared.Reply.TheVariants.{NoData}
use Rattle.adi_reply.proofs.read_no_data.Goals as goal

pub returns-then-other_type : goal.returns-then-other_type
unfolding refusal
returns-then-other_type c = refuses _ _ _ _ _ _ (c.other_type.ensures ∙ ap other_type c.rest-body.ensures) c.if-other_type.true refl

pub returns : goal.returns
returns c =
    passes _ _ _ _ _ _ (c.other_type.ensures ∙ ap other_type c.rest-body.ensures) c.if-other_type.false
    (ap₂ (λ (count n : ℕ). Ok (NoData count n)) c.byte_at.ensures (c.byte_at-2.ensures ∙ ap length_of c.rest-body.ensures))
