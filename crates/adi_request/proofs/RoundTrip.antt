-- What is written reads back, group by group; and what was read, written again, is the same bytes.
-- Assumes nothing.
use mathlib.Core.Path.{◌≡◌, refl, sym, ap, ap₂, ◌∙◌, subst}
use mathlib.Core.Bool.{false, not}
use mathlib.Core.List.{List, [], ◌∷◌, map}
use Prim.Native.Nat.{ℕ, ◌*◌, ◌≤◌}
use native.Mathlib.Omega.{arith}
use lib.ListN.{length, take}
use borrow.Author.Tests.{eqb-true, not-false, eq-eqb, le-ltb}
use Rattle.std.specs.Prelude.{Ok}
use Rattle.wire.specs.Writes.{Written}
use Rattle.wire.specs.Each.{Bytes}
use Rattle.wire.specs.InTurn.{in_turn, Faultless}
use Rattle.wire.specs.Numbers.{over}
use Rattle.wire.specs.Refusal.{◌when◌, first, NoneHolds}
use Rattle.wire.proofs.Answer.{judged_none, accepted_as}
use Rattle.wire.proofs.Bools.{neither_or, or_neither}
use Rattle.wire.proofs.InTurn.{in_turn_law}
use Rattle.wire.proofs.Rules.{none_first, first_none, none_append, none_both, numbered_append}
use Rattle.wire.proofs.Writes.{wrote_front, wrote_all}
use Rattle.adi.specs.Groups.{groups}
use Rattle.adi.specs.Head.{count_of, body_of, other_count}
use Rattle.adi.specs.Room.{no_room}
use Rattle.adi_request.specs.Layout.{asked_of, six, groups_of, body_bytes, request_bytes}
use Rattle.adi_request.specs.Reading.{not_sevens, group_rules, request_rules, read_request, asked_at}
use Rattle.adi_request.specs.Writing.{asked_rules, judge_rules, write_rules, WritesRequest}
use Rattle.adi_request.specs.Promise.{Says, Words}
use Rattle.adi_request.specs.declared.Asked.{Asked}
use Rattle.adi_request.proofs.Bytes.{body_count, body_faultless, body_each, body_again, again_faultless, each_is}
use Rattle.adi_request.proofs.Judging.{request_numbered, judge_numbered, count_is, body_sevens, body_groups}
use Rattle.adi_request.proofs.Stores.{length_body}

-- ---- what is written reads back
module _ (asks : List Asked) (words : Words asks) (none : NoneHolds (judge_rules asks)) where
  written_good : NoneHolds (request_rules (request_bytes asks))
  unfolding request_bytes
  written_good =
      let faultless = (in_turn_law asked_rules (λ a. tt) asks).1 (first_none (in_turn asked_rules asks) none.1) in
      let good = (in_turn_law group_rules (λ g. tt) (groups six (body_bytes asks))).2 (body_faultless asks words faultless) in (
        refl,
        (
          neither_or (other_count (request_bytes asks)) _ (ap not (eq-eqb (length asks * 7) (length (body_bytes asks)) (sym (length_body asks)))) none.0,
          none_first (in_turn group_rules (groups six (body_bytes asks))) (request_numbered (request_bytes asks)) good,
        ),
      )

  pub bytes_say : Says (request_bytes asks) asks
  unfolding read_request asked_at request_bytes
  bytes_say =
      record {
        count = judged_none _ _ (first_none (request_rules (request_bytes asks)) written_good) ∙ ap Ok (body_count asks);
        each = body_each asks words;
      }

pub request_reads_back : (asks : List Asked) (out : List ℕ) (r : Written) (out' : List ℕ) (k : ℕ) → Words asks → WritesRequest asks out r out' → r ≡ Ok k
    → Says (take k out') asks
request_reads_back asks out r out' k words w e =
    let front = wrote_front _ _ out r out' k w e in
    let none = none_first (write_rules asks out) (numbered_append (judge_rules asks) _ (judge_numbered asks) tt) front.0 in
    subst (λ (s : List ℕ). Says s asks) (sym front.1) (bytes_say asks words (none_append (judge_rules asks) _ none).0)

-- ---- what was read is written again
module _ (s : List ℕ) (asks : List Asked) (bytes : Bytes s) (says : Says s asks) where
  accepted : (first (request_rules s) ≡ 0) × (length (groups_of s) ≡ length asks)
  unfolding read_request
  accepted = accepted_as (length (groups_of s)) _ (length asks) says.count

  none_of : NoneHolds (request_rules s)
  none_of = none_first (request_rules s) (request_numbered s) accepted.0

  faultless : Faultless group_rules (groups_of s)
  faultless = (in_turn_law group_rules (λ g. tt) (groups_of s)).1 (first_none (in_turn group_rules (groups_of s)) none_of.1.1)

  as_many : length (groups_of s) ≡ length asks
  as_many = accepted.1

  asked_are : map asked_of (groups_of s) ≡ asks
  unfolding asked_at
  asked_are = each_is (groups_of s) asks as_many says.each

  body_is : length (body_of s) ≡ length asks * 7
  body_is =
      let n = body_groups s none_of.1.0 in
      let w = (body_sevens s none_of.1.0).whole in
      omega (arith, n, w, as_many)

  pub judged_again : NoneHolds (judge_rules asks)
  judged_again =
      let sevens : not_sevens (count_of s) ≡ false = (or_neither (other_count s) _ none_of.1.0).1 in
      let good = subst (Faultless asked_rules) asked_are (again_faultless (groups_of s) faultless) in (
        ap not_sevens (sym (count_is s none_of.1.0 ∙ body_is)) ∙ sevens,
        none_first (in_turn asked_rules asks) (judge_numbered asks) ((in_turn_law asked_rules (λ a. tt) asks).2 good),
      )

pub bytes_again : (s : List ℕ) (asks : List Asked) → Bytes s → Says s asks → request_bytes asks ≡ s
unfolding request_bytes
bytes_again [] asks bytes says = absurd (let h = body_sevens [] (none_of [] asks bytes says).1.0 in omega (arith, h.some))
bytes_again (f ∷ []) asks bytes says = absurd (let h = body_sevens (f ∷ []) (none_of (f ∷ []) asks bytes says).1.0 in omega (arith, h.some))
bytes_again (f ∷ n ∷ d) asks bytes says =
    let s : List ℕ = f ∷ n ∷ d in
    let none = none_of s asks bytes says in
    let function : f ≡ 0x14 = eqb-true f 0x14 (not-false _ none.0) in
    let count : n ≡ length asks * 7 = count_is s none.1.0 ∙ body_is s asks bytes says in
    let body : body_bytes asks ≡ d =
    ap body_bytes (sym (asked_are s asks bytes says)) ∙ body_again d (body_sevens s none.1.0).whole bytes.1.1 (faultless s asks bytes says) in
    ap₂ (λ (x y : ℕ). x ∷ y ∷ body_bytes asks) (sym function) (sym count) ∙ ap (λ (l : List ℕ). f ∷ n ∷ l) body

pub request_writes_again : (s : List ℕ) (asks : List Asked) (out : List ℕ) (r : Written) (out' : List ℕ) → Bytes s → Says s asks → length s ≤ length out
    → WritesRequest asks out r out' → (r ≡ Ok (length s)) × (out' ≡ over out s)
request_writes_again s asks out r out' bytes says room w =
    let again = bytes_again s asks bytes says in
    let fits : length (request_bytes asks) ≤ length out = omega (arith, ap length again) in
    let none : NoneHolds (write_rules asks out) =
    none_both (judge_rules asks) (16 when no_room (request_bytes asks) out ∷ []) (judged_again s asks bytes says) (le-ltb _ _ fits, tt) in
    let all = wrote_all _ _ out r out' w (first_none (write_rules asks out) none) in
    (all.0 ∙ ap (λ (l : List ℕ). Ok (length l)) again, all.1 ∙ ap (over out) again)
