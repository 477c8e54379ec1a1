-- Demand 1 of the number that opening tells, and of the number that the receiver tells.
-- Assumes nothing.
use mathlib.Core.Path.{◌≡◌, refl}
use mathlib.Core.Bool.{Bool, true, false}
use mathlib.Core.List.{List}
use Prim.Native.Nat.{ℕ}
use Rattle.wire.specs.Refusal.{FirstInOrder}
use Rattle.std.specs.Prelude.{Ok}
use Rattle.wire.specs.Answer.{refuse as refused_by}
use Rattle.wire.proofs.Answer.{named_first}
use Rattle.sm160_frame.specs.Layout.{is_end}
use Rattle.sm160_receiver.specs.Receiving.{opened, open_rules, opening, told_opening, reached, receive_rules, refusal, refuse, reply, accept, step, told_answer}
use Rattle.sm160_receiver.specs.declared.Receiver.{Receiver}

pub open_first : (session largest : ℕ) → FirstInOrder (open_rules largest) (told_opening (opening session largest)).number
unfolding opening
open_first session largest = named_first refused_by (Ok (opened session largest)) (λ o. (told_opening o).number) (λ n. refl) (open_rules largest) tt refl

no_refusal : (ends : Bool) (n : ℕ) → (told_answer (reply ends n)).number ≡ 0
no_refusal true n = refl
no_refusal false n = refl

pub receive_first : (s : Receiver) (f b : List ℕ) → FirstInOrder (receive_rules s b f) (told_answer (step s f b).answer).number
unfolding step refusal
receive_first s f b =
    named_first (λ n. refuse n s b) (accept s f b) (λ o. (told_answer o.answer).number) (λ n. refl) (receive_rules s b f) tt (no_refusal (is_end f) (reached f))
