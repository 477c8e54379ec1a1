-- Demand 1 of each number that is told; and what 'group by group' comes to: past the numbers before it, the first fault of the first faulty group.
-- Assumes nothing.
use mathlib.Core.Path.{◌≡◌, refl, sym, ap, ◌∙◌, subst}
use mathlib.Core.Bool.{Bool, false}
use mathlib.Core.List.{List}
use Prim.Native.Nat.{ℕ}
use lib.ListN.{length}
use Rattle.std.specs.Prelude.{Ok}
use Rattle.wire.specs.Answer.{refuse}
use Rattle.wire.specs.InTurn.{in_turn, FirstInTurn}
use Rattle.wire.specs.Refusal.{pick, first, FirstInOrder}
use Rattle.wire.specs.Writes.{Written, told_written}
use Rattle.wire.proofs.Answer.{named_first, told_number}
use Rattle.wire.proofs.InTurn.{in_turn_law}
use Rattle.wire.proofs.Rules.{numbered_append}
use Rattle.wire.proofs.Writes.{written_first}
use Rattle.adi.specs.Head.{not_function}
use Rattle.adi.specs.Room.{no_room}
use Rattle.adi.proofs.Room.{room_there}
use Rattle.adi_request.specs.Layout.{groups_of, request_bytes}
use Rattle.adi_request.specs.Reading.{bad_count, group_rules, request_rules, read_request, told_request}
use Rattle.adi_request.specs.Writing.{bad_number, asked_rules, judge_rules, write_rules, WritesRequest}
use Rattle.adi_request.specs.declared.Asked.{Asked}
use Rattle.adi_request.proofs.Judging.{request_named, judge_numbered}

pub read_request_first : (s : List ℕ) → FirstInOrder (request_rules s) (told_request (read_request s)).number
unfolding read_request
read_request_first s =
    named_first refuse (Ok (length (groups_of s))) (λ x. (told_request x).number) (λ n. refl) (request_rules s) (request_named s) refl

pub write_request_first : (asks : List Asked) (out : List ℕ) (r : Written) (out' : List ℕ) → WritesRequest asks out r out'
    → FirstInOrder (write_rules asks out) (told_written r).number
write_request_first asks out r out' w =
    written_first (write_rules asks out) _ out r out' (numbered_append (judge_rules asks) _ (judge_numbered asks) tt) w

-- ---- group by group
pub request_group_by_group : (s : List ℕ) → not_function s ≡ false → bad_count s ≡ false → FirstInTurn group_rules (groups_of s) (told_request (read_request s)).number
unfolding read_request pick
request_group_by_group s f c =
    let rest = first (in_turn group_rules (groups_of s)) in
    let past : first (request_rules s) ≡ rest = ap (λ (b : Bool). pick b 10 (pick (bad_count s) 80 rest)) f ∙ ap (λ (b : Bool). pick b 80 rest) c in
    let told = told_number refuse (Ok (length (groups_of s))) (λ x. (told_request x).number) (λ n. refl) (request_rules s) (request_named s) refl in
    subst (FirstInTurn group_rules (groups_of s)) (sym past ∙ told) (in_turn_law group_rules (λ g. tt) (groups_of s))

pub written_group_by_group : (asks : List Asked) (out : List ℕ) (r : Written) (out' : List ℕ) → WritesRequest asks out r out'
    → bad_number asks ≡ false → no_room (request_bytes asks) out ≡ false → FirstInTurn asked_rules asks (told_written r).number
unfolding pick
written_group_by_group asks out r out' w c room =
    let past : first (write_rules asks out) ≡ first (in_turn asked_rules asks) =
    room_there (judge_rules asks) (request_bytes asks) out room ∙ ap (λ (b : Bool). pick b 80 (first (in_turn asked_rules asks))) c in
    subst (FirstInTurn asked_rules asks) (sym past ∙ sym w.told) (in_turn_law asked_rules (λ a. tt) asks)
