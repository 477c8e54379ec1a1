-- What is written reads back, group by group, and so does that there is no data; and what was read, written again, is the same bytes.
-- Assumes nothing.
use mathlib.Core.Path.{◌≡◌, refl, sym, ap, ap₂, ◌∙◌, subst}
use mathlib.Core.Bool.{Bool, true, false, not}
use mathlib.Core.List.{List, [], ◌∷◌, map}
use Prim.Native.Nat.{ℕ, ◌≤◌}
use native.Mathlib.Omega.{arith}
use lib.ListN.{length, take}
use borrow.Author.Tests.{eqb-true, not-false, eq-eqb, ne_eqb, le-ltb}
use Rattle.std.specs.Prelude.{Ok}
use Rattle.wire.specs.Writes.{Written}
use Rattle.wire.specs.Answer.{judged}
use Rattle.wire.specs.InTurn.{in_turn, Faultless}
use Rattle.wire.specs.Numbers.{over}
use Rattle.wire.specs.Refusal.{◌when◌, pick, first, NoneHolds}
use Rattle.wire.proofs.Answer.{judged_none, accepted_as}
use Rattle.wire.proofs.Bools.{neither_or, or_neither}
use Rattle.wire.proofs.InTurn.{in_turn_law, in_turn_numbered}
use Rattle.wire.proofs.Rules.{none_first, first_none, none_append, none_both, numbered_append}
use Rattle.wire.proofs.Writes.{wrote_front, wrote_all}
use Rattle.adi.specs.Groups.{groups}
use Rattle.adi.specs.Head.{count_of, body_of, not_function, other_count}
use Rattle.adi.specs.Room.{no_room}
use Rattle.adi_reply.specs.Layout.{length_of, registers_of, typed, groups_of, body_bytes, reply_bytes, no_data_bytes}
use Rattle.adi_reply.specs.Reading.{not4to245, group_rules, body_rules, four_bytes, reply_rules, found_in, read_reply, registers_at}
use Rattle.adi_reply.specs.Writing.{cut, total, count_for, length_rules, judge_rules, write_rules, WritesReply, no_data_rules, WritesNoData}
use Rattle.adi_reply.specs.Promise.{Says, joined}
use Rattle.adi_reply.specs.declared.Reply.{Reply}
use Rattle.adi_reply.specs.declared.Reply.TheVariants.{Groups, NoData}
use Rattle.adi_reply.proofs.Bytes.{body_count, body_faultless, body_each, body_again, again_faultless, each_is, cut_lengths, cut_joined, joined_total}
use Rattle.adi_reply.proofs.Judging.{Good, good, reply_numbered, judge_numbered}
use Rattle.adi_reply.proofs.Stores.{length_body}

-- ---- what is written reads back
module _ (ns registers : List ℕ) (none : NoneHolds (judge_rules ns registers)) where
  abbrev rs : List (List ℕ)
  rs = cut ns registers

  fine : Good ns registers
  fine = good ns registers none.0

  length_written : length (body_bytes rs) ≡ count_for ns
  length_written = length_body ns registers fine.all

  longer : four_bytes (reply_bytes rs) ≡ false
  unfolding reply_bytes
  longer = ne_eqb (length (reply_bytes rs)) 4 (λ z. omega (arith, z, length_written, fine.some))

  written_good : NoneHolds (body_rules false (reply_bytes rs))
  unfolding reply_bytes
  written_good =
      let faultless = (in_turn_law length_rules (λ n. tt) ns).1 (first_none (in_turn length_rules ns) none.1) in
      let same = subst (Faultless length_rules) (sym (cut_lengths ns registers fine.all)) faultless in
      let clean = (in_turn_law group_rules (λ g. tt) (groups typed (body_bytes rs))).2 (body_faultless rs same) in
      let count : not4to245 (length (body_bytes rs)) ≡ false = ap not4to245 length_written ∙ (or_neither (not4to245 (count_for ns)) _ none.0).0 in (
        neither_or (other_count (reply_bytes rs)) _ (ap not (eq-eqb (length (body_bytes rs)) (length (body_bytes rs)) refl)) count,
        none_first (in_turn group_rules (groups typed (body_bytes rs))) (in_turn_numbered group_rules (λ g. tt) (groups typed (body_bytes rs))) clean,
      )

  pub bytes_say : Says (reply_bytes rs) rs
  unfolding read_reply registers_at reply_bytes
  bytes_say =
      record {
        count =
            ap (λ (b : Bool). judged (found_in b (reply_bytes rs)) (pick (not_function (reply_bytes rs)) 10 (first (body_rules b (reply_bytes rs))))) longer
            ∙ judged_none _ _ (first_none (10 when not_function (reply_bytes rs) ∷ body_rules false (reply_bytes rs)) (refl, written_good))
            ∙ ap (λ (k : ℕ). Ok (Groups k)) (body_count rs);
        each = body_each rs;
      }

pub reply_reads_back : (ns registers out : List ℕ) (r : Written) (out' : List ℕ) (k : ℕ) → WritesReply ns registers out r out' → r ≡ Ok k
    → Says (take k out') (cut ns registers)
reply_reads_back ns registers out r out' k w e =
    let front = wrote_front _ _ out r out' k w e in
    let none = none_first (write_rules ns registers out) (numbered_append (judge_rules ns registers) _ (judge_numbered ns registers) tt) front.0 in
    subst (λ (s : List ℕ). Says s (cut ns registers)) (sym front.1) (bytes_say ns registers (none_append (judge_rules ns registers) _ none).0)

-- ---- what was read is written again
accepted : (s : List ℕ) (a : Reply) → read_reply s ≡ Ok a → NoneHolds (reply_rules s) × (found_in (four_bytes s) s ≡ a)
unfolding read_reply
accepted s a e =
    let p = accepted_as (found_in (four_bytes s) s) _ a e in
    (none_first (reply_rules s) (reply_numbered s) p.0, p.1)

-- groups come of no four bytes, and no data of no others
has_groups : (s : List ℕ) (n : ℕ) → found_in (four_bytes s) s ≡ Groups n → four_bytes s ≡ false
has_groups s n e = go (four_bytes s) refl
  where
    go : (b : Bool) → four_bytes s ≡ b → four_bytes s ≡ false
    go true eb =
        absurd (let same : NoData (count_of s) (length_of (body_of s)) ≡ Groups n = sym (ap (λ (b : Bool). found_in b s) eb) ∙ e in let z : ◌≡◌ {A = ℕ} 0 1 = cc in omega arith)
    go false eb = eb

has_no_data : (s : List ℕ) (count n : ℕ) → found_in (four_bytes s) s ≡ NoData count n → four_bytes s ≡ true
has_no_data s count n e = go (four_bytes s) refl
  where
    go : (b : Bool) → four_bytes s ≡ b → four_bytes s ≡ true
    go true eb = eb
    go false eb =
        absurd (let same : Groups (length (groups_of s)) ≡ NoData count n = sym (ap (λ (b : Bool). found_in b s) eb) ∙ e in let z : ◌≡◌ {A = ℕ} 0 1 = cc in omega arith)

-- a reply that is read as n groups
module _ (s : List ℕ) (n : ℕ) (e : read_reply s ≡ Ok (Groups n)) where
  other : four_bytes s ≡ false
  other = has_groups s n (accepted s (Groups n) e).1

  none_of : (not_function s ≡ false) × NoneHolds (body_rules false s)
  none_of =
      let p = (accepted s (Groups n) e).0 in
      (p.0, subst (λ (b : Bool). NoneHolds (body_rules b s)) other p.1)

  pub read_faultless : Faultless group_rules (groups_of s)
  read_faultless = (in_turn_law group_rules (λ g. tt) (groups_of s)).1 (first_none (in_turn group_rules (groups_of s)) none_of.1.1)

  pub read_as_many : length (groups_of s) ≡ n
  read_as_many =
      let same : Groups (length (groups_of s)) ≡ Groups n = sym (ap (λ (b : Bool). found_in b s) other) ∙ (accepted s (Groups n) e).1 in
      cc

module _ (s : List ℕ) (rs : List (List ℕ)) (says : Says s rs) where
  none_held : (not_function s ≡ false) × NoneHolds (body_rules false s)
  none_held = none_of s (length rs) says.count

  faultless : Faultless group_rules (groups_of s)
  faultless = read_faultless s (length rs) says.count

  registers_are : map registers_of (groups_of s) ≡ rs
  unfolding registers_at
  registers_are = each_is (groups_of s) rs (read_as_many s (length rs) says.count) says.each

  body_is : body_bytes rs ≡ body_of s
  body_is = ap body_bytes (sym registers_are) ∙ body_again (body_of s) faultless

  count_is : count_of s ≡ length (body_bytes rs)
  count_is = eqb-true _ _ (not-false _ (or_neither (other_count s) _ none_held.1.0).0) ∙ ap length (sym body_is)

  pub judged_again : NoneHolds (judge_rules (map length rs) (joined rs))
  judged_again =
      let all = joined_total rs in
      let count : count_of s ≡ count_for (map length rs) =
      count_is ∙ ap (λ (l : List (List ℕ)). length (body_bytes l)) (sym (cut_joined rs)) ∙ length_body (map length rs) (joined rs) all in
      let clean = subst (λ (l : List (List ℕ)). Faultless length_rules (map length l)) registers_are (again_faultless (groups_of s) faultless) in (
        neither_or (not4to245 (count_for (map length rs))) _ (ap not4to245 (sym count) ∙ (or_neither (other_count s) _ none_held.1.0).1)
            (ap not (eq-eqb (total (map length rs)) (length (joined rs)) all)),
        none_first (in_turn length_rules (map length rs)) (judge_numbered (map length rs) (joined rs)) ((in_turn_law length_rules (λ n. tt) (map length rs)).2 clean),
      )

pub bytes_again : (s : List ℕ) (rs : List (List ℕ)) → Says s rs → reply_bytes rs ≡ s
unfolding reply_bytes
bytes_again [] rs says = absurd (let z : 0 ≡ 0x14 = eqb-true 0 0x14 (not-false _ (none_held [] rs says).0) in omega arith)
bytes_again (f ∷ []) rs says = absurd (let z : true ≡ false = (none_held (f ∷ []) rs says).1.0 in let y : ◌≡◌ {A = ℕ} 0 1 = cc in omega arith)
bytes_again (f ∷ n ∷ d) rs says =
    let s : List ℕ = f ∷ n ∷ d in
    let function : f ≡ 0x14 = eqb-true f 0x14 (not-false _ (none_held s rs says).0) in
    ap₂ (λ (x y : ℕ). x ∷ y ∷ body_bytes rs) (sym function) (sym (count_is s rs says)) ∙ ap (λ (l : List ℕ). f ∷ n ∷ l) (body_is s rs says)

pub reply_writes_again : (s : List ℕ) (rs : List (List ℕ)) (out : List ℕ) (r : Written) (out' : List ℕ) → Says s rs → length s ≤ length out
    → WritesReply (map length rs) (joined rs) out r out' → (r ≡ Ok (length s)) × (out' ≡ over out s)
reply_writes_again s rs out r out' says room w =
    let ns = map length rs in
    let again : reply_bytes (cut ns (joined rs)) ≡ s = ap reply_bytes (cut_joined rs) ∙ bytes_again s rs says in
    let fits : length (reply_bytes (cut ns (joined rs))) ≤ length out = omega (arith, ap length again) in
    let none : NoneHolds (write_rules ns (joined rs) out) =
    none_both (judge_rules ns (joined rs)) (16 when no_room (reply_bytes (cut ns (joined rs))) out ∷ []) (judged_again s rs says) (le-ltb _ _ fits, tt) in
    let all = wrote_all _ _ out r out' w (first_none (write_rules ns (joined rs) out) none) in
    (all.0 ∙ ap (λ (l : List ℕ). Ok (length l)) again, all.1 ∙ ap (over out) again)

-- ---- no data
no_data_said : (count n : ℕ) → read_reply (no_data_bytes count n) ≡ Ok (NoData count n)
unfolding read_reply pick
no_data_said count n = refl

four : (s : List ℕ) → length s ≡ 4 → NoneHolds (10 when not_function s ∷ body_rules true s) → no_data_bytes (count_of s) (length_of (body_of s)) ≡ s
four [] e none = absurd (omega arith)
four (f ∷ []) e none = absurd (omega arith)
four (f ∷ a ∷ []) e none = absurd (omega arith)
four (f ∷ a ∷ b ∷ []) e none = absurd (omega arith)
four (f ∷ a ∷ b ∷ t ∷ []) e none =
    ap₂ (λ (x y : ℕ). x ∷ a ∷ b ∷ y ∷ []) (sym (eqb-true f 0x14 (not-false _ none.0))) (sym (eqb-true t 6 (not-false _ none.1.0)))
four (f ∷ a ∷ b ∷ t ∷ c ∷ s) e none = absurd (omega arith)

no_data_again : (s : List ℕ) (count n : ℕ) → read_reply s ≡ Ok (NoData count n) → no_data_bytes count n ≡ s
no_data_again s count n e =
    let p = accepted s (NoData count n) e in
    let is-four = has_no_data s count n p.1 in
    let none : NoneHolds (10 when not_function s ∷ body_rules true s) = (p.0.0, subst (λ (b : Bool). NoneHolds (body_rules b s)) is-four p.0.1) in
    let same : NoData (count_of s) (length_of (body_of s)) ≡ NoData count n = sym (ap (λ (b : Bool). found_in b s) is-four) ∙ p.1 in
    let count_same : count_of s ≡ count = cc in
    let length-same : length_of (body_of s) ≡ n = cc in
    ap₂ no_data_bytes (sym count_same) (sym length-same) ∙ four s (eqb-true (length s) 4 is-four) none

pub no_data_reads_back : (count n : ℕ) (out : List ℕ) (r : Written) (out' : List ℕ) (k : ℕ) → WritesNoData count n out r out' → r ≡ Ok k
    → read_reply (take k out') ≡ Ok (NoData count n)
no_data_reads_back count n out r out' k w e = ap read_reply (wrote_front _ _ out r out' k w e).1 ∙ no_data_said count n

pub no_data_writes_again : (s : List ℕ) (count n : ℕ) (out : List ℕ) (r : Written) (out' : List ℕ) → read_reply s ≡ Ok (NoData count n) → length s ≤ length out
    → WritesNoData count n out r out' → (r ≡ Ok (length s)) × (out' ≡ over out s)
no_data_writes_again s count n out r out' e room w =
    let again = no_data_again s count n e in
    let fits : length (no_data_bytes count n) ≤ length out = omega (arith, ap length again) in
    let all = wrote_all _ _ out r out' w (first_none (no_data_rules count n out) (le-ltb _ _ fits, tt)) in
    (all.0 ∙ ap (λ (l : List ℕ). Ok (length l)) again, all.1 ∙ ap (over out) again)
