-- Demand 1 of the number that the sender tells.
-- Assumes nothing.
use mathlib.Core.Path.{refl, sym, subst}
use mathlib.Core.List.{List}
use Prim.Native.Nat.{ℕ}
use lib.ListN.{length}
use Rattle.wire.specs.Refusal.{FirstInOrder}
use Rattle.std.specs.Prelude.{Result, Ok}
use Rattle.wire.specs.Answer.{refuse}
use Rattle.wire.specs.declared.refusals.Refusal.{Refusal}
use Rattle.wire.proofs.Answer.{named_first}
use Rattle.sm160_sender.specs.Sending.{next_place, sent_bytes, send_rules, Sends, told_sent}
use Rattle.sm160_sender.specs.declared.Sent.{Sent}

pub send_first : (file : List ℕ) (session largest place : ℕ) (out : List ℕ) (r : Result Sent Refusal) (out' : List ℕ)
    → Sends file session largest place out r out' → FirstInOrder (send_rules file largest place (length out)) (told_sent r).number
send_first file session largest place out r out' w =
    let rules = send_rules file largest place (length out) in
    subst (λ (x : Result Sent Refusal). FirstInOrder rules (told_sent x).number) (sym w.answer)
    (named_first refuse (Ok (record { length = length (sent_bytes file session largest place); next = next_place file largest place })) (λ x. (told_sent x).number) (λ n. refl) rules tt refl)
