-- Demand 1 of each number that is told; and what 'group by group' comes to: past the numbers before it, the first fault of the first faulty group.
-- Assumes nothing.
use mathlib.Core.Path.{◌≡◌, refl, sym, ap, ◌∙◌, subst}
use mathlib.Core.Bool.{Bool, true, false}
use mathlib.Core.List.{List}
use Prim.Native.Nat.{ℕ}
use lib.ListN.{length}
use Rattle.std.specs.Prelude.{Ok}
use Rattle.wire.specs.Answer.{refuse}
use Rattle.wire.specs.InTurn.{in_turn, FirstInTurn}
use Rattle.wire.specs.Refusal.{pick, first, FirstInOrder}
use Rattle.wire.specs.Writes.{Written, told_written}
use Rattle.wire.proofs.Answer.{named_first, told_number}
use Rattle.wire.proofs.InTurn.{in_turn_law}
use Rattle.wire.proofs.Rules.{numbered_append}
use Rattle.wire.proofs.Writes.{written_first}
use Rattle.adi.specs.Head.{not_function}
use Rattle.adi.specs.Room.{no_room}
use Rattle.adi.proofs.Room.{room_there}
use Rattle.adi_reply.specs.Layout.{groups_of, reply_bytes}
use Rattle.adi_reply.specs.Reading.{bad_count, group_rules, body_rules, four_bytes, reply_rules, found_in, read_reply, told_reply}
use Rattle.adi_reply.specs.Writing.{cut, bad_number, length_rules, judge_rules, write_rules, WritesReply, no_data_rules, WritesNoData}
use Rattle.adi_reply.proofs.Judging.{reply_named, judge_numbered}

-- what is found is told as no refusal
found_0 : (b : Bool) (s : List ℕ) → (told_reply (Ok (found_in b s))).number ≡ 0
found_0 true s = refl
found_0 false s = refl

pub read_reply_first : (s : List ℕ) → FirstInOrder (reply_rules s) (told_reply (read_reply s)).number
unfolding read_reply
read_reply_first s =
    named_first refuse (Ok (found_in (four_bytes s) s)) (λ x. (told_reply x).number) (λ n. refl) (reply_rules s) (reply_named s) (found_0 (four_bytes s) s)

pub write_reply_first : (ns registers out : List ℕ) (r : Written) (out' : List ℕ) → WritesReply ns registers out r out'
    → FirstInOrder (write_rules ns registers out) (told_written r).number
write_reply_first ns registers out r out' w =
    written_first (write_rules ns registers out) _ out r out' (numbered_append (judge_rules ns registers) _ (judge_numbered ns registers) tt) w

pub write_no_data_first : (count n : ℕ) (out : List ℕ) (r : Written) (out' : List ℕ) → WritesNoData count n out r out'
    → FirstInOrder (no_data_rules count n out) (told_written r).number
write_no_data_first count n out r out' w = written_first (no_data_rules count n out) _ out r out' tt w

-- ---- group by group
pub reply_group_by_group : (s : List ℕ) → not_function s ≡ false → four_bytes s ≡ false → bad_count s ≡ false
    → FirstInTurn group_rules (groups_of s) (told_reply (read_reply s)).number
unfolding read_reply pick
reply_group_by_group s f o c =
    let rest = first (in_turn group_rules (groups_of s)) in
    let past : first (reply_rules s) ≡ rest =
    ap (λ (b : Bool). pick b 10 (first (body_rules (four_bytes s) s))) f ∙ ap (λ (b : Bool). first (body_rules b s)) o ∙ ap (λ (b : Bool). pick b 80 rest) c in
    let told = told_number refuse (Ok (found_in (four_bytes s) s)) (λ x. (told_reply x).number) (λ n. refl) (reply_rules s) (reply_named s) (found_0 (four_bytes s) s) in
    subst (FirstInTurn group_rules (groups_of s)) (sym past ∙ told) (in_turn_law group_rules (λ g. tt) (groups_of s))

pub written_group_by_group : (ns registers out : List ℕ) (r : Written) (out' : List ℕ) → WritesReply ns registers out r out'
    → bad_number ns registers ≡ false → no_room (reply_bytes (cut ns registers)) out ≡ false → FirstInTurn length_rules ns (told_written r).number
unfolding pick
written_group_by_group ns registers out r out' w c room =
    let bytes = reply_bytes (cut ns registers) in
    let past : first (write_rules ns registers out) ≡ first (in_turn length_rules ns) =
    room_there (judge_rules ns registers) bytes out room ∙ ap (λ (b : Bool). pick b 80 (first (in_turn length_rules ns))) c in
    subst (FirstInTurn length_rules ns) (sym past ∙ sym w.told) (in_turn_law length_rules (λ n. tt) ns)
