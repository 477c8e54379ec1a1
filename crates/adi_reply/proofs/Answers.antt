-- What a reply is answered with, as the code judges it: function, then four bytes or not, then the byte count, then the groups.
-- Assumes nothing.
use mathlib.Core.Path.{◌≡◌, refl, sym, ap, ◌∙◌}
use mathlib.Core.Bool.{Bool, true, false}
use mathlib.Core.List.{List}
use Prim.Native.Nat.{ℕ}
use lib.ListN.{length}
use borrow.Author.Tests.{eq-eqb, ne_eqb}
use Rattle.std.specs.Prelude.{Result, Ok, Err}
use Rattle.wire.specs.Answer.{judged}
use Rattle.wire.specs.InTurn.{in_turn}
use Rattle.wire.specs.Numbered.{refusal}
use Rattle.wire.specs.Refusal.{pick, first}
use Rattle.wire.specs.declared.refusals.Refusal.{Refusal}
use Rattle.wire.specs.declared.refusals.Refusal.TheVariants.{UnknownFunction, BadCount}
use Rattle.wire.proofs.Answer.{refuses, passes, accepted_as}
use Rattle.adi.specs.Head.{not_function}
use Rattle.adi.proofs.Handed.{goes_back, goes_on}
use Rattle.adi_reply.specs.Layout.{groups_of}
use Rattle.adi_reply.specs.Reading.{bad_count, group_rules, body_rules, four_bytes, found_in, read_reply}
use Rattle.adi_reply.specs.declared.Reply.{Reply}
use Rattle.adi_reply.specs.declared.Reply.TheVariants.{Groups}

module _ (s : List ℕ) {r : Bool} (er : r ≡ not_function s) where
  pub refused_10 : r ≡ true → Err UnknownFunction ≡ read_reply s
  unfolding read_reply refusal
  refused_10 t = refuses _ r (not_function s) 10 _ _ er t refl

  module _ (left : r ≡ false) where
    -- past the function, with b for four bytes or not
    past : (b : Bool) → four_bytes s ≡ b → judged (found_in b s) (first (body_rules b s)) ≡ read_reply s
    unfolding read_reply
    past b e =
        passes (found_in b s) r (not_function s) 10 _ _ er left refl
        ∙ sym (ap (λ (x : Bool). judged (found_in x s) (pick (not_function s) 10 (first (body_rules x s)))) e)

    pub is_no_data : length s ≡ 4 → {a : Result Reply Refusal} → a ≡ judged (found_in true s) (first (body_rules true s)) → a ≡ read_reply s
    is_no_data four e = e ∙ past true (eq-eqb _ _ four)

    module _ (other : length s ≡ 4 → ⊥) {c : Bool} (ec : c ≡ bad_count s) where
      pub refused_80 : c ≡ true → Err BadCount ≡ read_reply s
      unfolding refusal
      refused_80 t = refuses (found_in false s) c (bad_count s) 80 _ _ ec t refl ∙ past false (ne_eqb _ _ other)

      module _ (t : c ≡ false) where
        is_groups : {a : Result Reply Refusal} → a ≡ judged (Groups (length (groups_of s))) (first (in_turn group_rules (groups_of s))) → a ≡ read_reply s
        is_groups e = passes (found_in false s) c (bad_count s) 80 _ _ ec t e ∙ past false (ne_eqb _ _ other)

        -- as the groups are counted
        pub group_refused : (e : Refusal) → ◌≡◌ {A = Result ℕ Refusal} (Err e) (judged (length (groups_of s)) (first (in_turn group_rules (groups_of s)))) → Err e ≡ read_reply s
        group_refused e j = is_groups (goes_back _ (length (groups_of s)) _ _ e j refl)

        pub groups_counted : (n : ℕ) → ◌≡◌ {A = Result ℕ Refusal} (Ok n) (judged (length (groups_of s)) (first (in_turn group_rules (groups_of s)))) → Ok (Groups n) ≡ read_reply s
        groups_counted n j =
            is_groups (goes_on _ (length (groups_of s)) n (Ok n) _ _ j refl (ap Groups (sym (accepted_as (length (groups_of s)) _ n (sym j)).1)))
