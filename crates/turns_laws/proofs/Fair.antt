-- Fairness: a slot that is due, and neither cleared nor removed, is given within 32 turns, whatever the calls on other slots. Of each call is used
-- that it met its contract, and nothing else.
-- Assumes nothing.
use mathlib.Core.Path.{◌≡◌, refl, sym, ap, ap₂, ◌∙◌, subst}
use mathlib.Core.Logic.{◌⊎◌, inl, inr, ⊎_elim}
use mathlib.Core.Bool.{true, false, not}
use mathlib.Core.List.{List, [], ◌∷◌}
use Prim.Native.Nat.{ℕ, suc, ◌<◌, ◌≤◌}
use native.Mathlib.Omega.{arith}
use lib.ListN.{length}
use Rattle.std.specs.Prelude.{Ok}
use Rattle.wire.specs.Answer.{answered, refuse}
use Rattle.wire.specs.Refusal.{first}
use Rattle.wire.specs.Told.{Told, accepted}
use Rattle.wire.proofs.Rules.{first_none}
use Rattle.turns.specs.Table.{IsSlot, unfit, address_of, is_due, next_after, next_due, with_due, asked}
use Rattle.turns.specs.Calls.{answered_with, Turned, Changed, Added, turn_rules, turned, told_turning}
use Rattle.turns.specs.declared.Table.{Table}
use Rattle.turns.proofs.Round.{Ahead, Between, reached, on_the_way, is_some}
use Rattle.turns_laws.specs.Fit.{Fit}
use Rattle.turns_laws.specs.Course.{Remove, Clear, Turn, Exchange, exchange, ByCall, of_add, of_remove, of_mark, of_clear, of_turn, Course, EachCall}
use Rattle.turns_laws.specs.Fairness.{Spared, turns_in, NoneRefused, GivenWithin, Waits}
use Rattle.turns_laws.proofs.Fitness.{is_fit, fit_is}
use Rattle.turns_laws.proofs.Changes.{same_or_not}
use Rattle.turns_laws.proofs.Kept.{add_fit, remove_fit, due_fit, turn_fit, turn_changes, Keeps, add_keeps, remove_keeps, clear_keeps, mark_keeps}

-- while a slot is due, no turn is refused
turn_accepted : (t : Table) → Fit t → (k : ℕ) → IsSlot k → is_due t k ≡ true → first (turn_rules t) ≡ 0
turn_accepted t f k s d = first_none (turn_rules t) (fit_is t f, (ap not (is_some (is_due t) k s d), tt))

-- an accepted turn gives the next due slot
turn_is : (t : Table) → first (turn_rules t) ≡ 0
    → turned t ≡ answered_with (Ok (record { slot = next_due t; address = address_of t (next_due t) })) (asked (with_due t (next_due t) false) (next_due t))
unfolding turned
turn_is t z = ap (answered (λ (n : ℕ). answered_with (refuse n) t) _) z

-- slot k waits in t: it is due, with address a, and d + 1 steps on from the last asked
record Due (k a d : ℕ) (t : Table) : Type 0 where
  pub fit : Fit t
  pub due : is_due t k ≡ true
  pub address : address_of t k ≡ a
  pub ahead : Ahead d t.last k

module _ (k : ℕ) (s : IsSlot k) (a : ℕ) where
  kept : (d : ℕ) (t t' : Table) → Due k a d t → Fit t' → Keeps k t t' → Due k a d t'
  kept d t t' w f h =
      record { fit = f; due = h.due; address = h.address ∙ w.address; ahead = subst (λ (l : ℕ). Ahead d l k) (sym h.last) w.ahead }

  -- a turn gives slot k, or another, and leaves slot k due and nearer
  record Passed (d : ℕ) (t : Table) : Type 0 where
    pub number : (told_turning (turned t).answer).number ≡ 0
    pub left : ℕ
    pub less : left < d
    pub waits : Due k a left (turned t).table

  one_turn : (d : ℕ) (t : Table) → d < 32 → Due k a d t → (told_turning (turned t).answer ≡ accepted (k ∷ a ∷ [])) ⊎ Passed d t
  unfolding next_after
  one_turn d t h w = ⊎_elim (λ (q : next_due t ≡ k). inl (hit q)) (λ (q : next_due t ≡ k → ⊥). inr (miss q)) (same_or_not (next_due t) k)
    where
      z : first (turn_rules t) ≡ 0
      z = turn_accepted t w.fit k s w.due

      hit : next_due t ≡ k → told_turning (turned t).answer ≡ accepted (k ∷ a ∷ [])
      hit q =
          ap (λ (r : Turned). told_turning r.answer) (turn_is t z)
          ∙ ap₂ (λ (x y : ℕ). accepted (x ∷ y ∷ [])) q (ap (address_of t) q ∙ w.address)

      -- the table that is left
      there : (next_due t ≡ k → ⊥) → Between d t.last (next_due t) k → Passed d t
      there q m =
          let c = turn_changes t w.fit z in
          let off : k ≡ next_due t → ⊥ = λ (e : k ≡ next_due t). q (sym e) in
          record {
            number = ap (λ (r : Turned). (told_turning r.answer).number) (turn_is t z);
            left = m.left;
            less = m.less;
            waits =
                record {
                  fit = turn_fit t w.fit;
                  due = ap (λ (r : Turned). is_due r.table k) (turn_is t z) ∙ c.dues k s off ∙ w.due;
                  address = ap (λ (r : Turned). address_of r.table k) (turn_is t z) ∙ c.addresses k s off ∙ w.address;
                  ahead = subst (λ (r : Turned). Ahead m.left r.table.last k) (sym (turn_is t z)) m.ahead;
                };
          }

      miss : (next_due t ≡ k → ⊥) → Passed d t
      miss q =
          ⊎_elim (λ (e : next_due t ≡ k). absurd (q e)) (λ (m : Between d t.last (next_due t) k). there q m)
          (on_the_way (is_due t) d 32 t.last k w.ahead w.due h)

  -- ---- over calls
  abbrev Outcome : ℕ → List Exchange → Table → Type 0
  Outcome d xs u = GivenWithin (suc d) k a (turns_in xs) ⊎ Waits (suc d) k (turns_in xs) u

  -- what comes of the calls xs, from the table v on
  abbrev Onward : List Exchange → Table → Table → Type 0
  Onward xs u v = (d : ℕ) → d < 32 → Due k a d v → Outcome d xs u

  -- a turn before the others
  given_first : (d : ℕ) (r : Told) (xs : List Exchange) (u : Table) → r ≡ accepted (k ∷ a ∷ []) → Outcome d (exchange Turn r ∷ xs) u
  unfolding turns_in NoneRefused
  given_first d r xs u e =
      inl (record { before = []; after = turns_in xs; given = ap (λ (x : Told). x ∷ turns_in xs) e; soon = omega arith; unrefused = tt })

  given_later : (d left : ℕ) (r : Told) (xs : List Exchange) (u : Table) → left < d → r.number ≡ 0 → Outcome left xs u → Outcome d (exchange Turn r ∷ xs) u
  unfolding turns_in NoneRefused
  given_later d left r xs u less number o =
      ⊎_elim
      (λ (g : GivenWithin (suc left) k a (turns_in xs)).
      inl (record {
        before = r ∷ g.before;
        after = g.after;
        given = ap (λ (rs : List Told). r ∷ rs) g.given;
        soon = omega (arith, g.soon);
        unrefused = (number, g.unrefused);
      }))
      (λ (w : Waits (suc left) k (turns_in xs) u). inr (record { due = w.due; few = omega (arith, w.few); unrefused = (number, w.unrefused) }))
      o

  turn_taken : (d : ℕ) (t : Table) (r : Turned) (xs : List Exchange) (u : Table) → r ≡ turned t → d < 32 → Due k a d t → Onward xs u r.table
      → Outcome d (exchange Turn (told_turning r.answer) ∷ xs) u
  turn_taken d t r xs u met h w more =
      ⊎_elim
      (λ (e : told_turning (turned t).answer ≡ accepted (k ∷ a ∷ [])).
      given_first d (told_turning r.answer) xs u (ap (λ (x : Turned). told_turning x.answer) met ∙ e))
      (λ (p : Passed d t).
      given_later d p.left (told_turning r.answer) xs u p.less
      (ap (λ (x : Turned). (told_turning x.answer).number) met ∙ p.number)
      (more p.left (omega (arith, p.less)) (subst (λ (x : Turned). Due k a p.left x.table) (sym met) p.waits)))
      (one_turn d t h w)

  -- one call more before the others
  one_more : (d : ℕ) (t : Table) (x : Exchange) (v : Table) → ByCall t x v → Spared k x.call → (xs : List Exchange) (u : Table) → d < 32 → Due k a d t → Onward xs u v
      → Outcome d (x ∷ xs) u
  unfolding turns_in
  one_more d _ _ _ (of_add κs c r e met) sp xs u h w more =
      more d h
      (subst (λ (x : Added). Due k a d x.table) (sym met)
      (kept d c.0 _ w (add_fit c.0 w.fit c.1.0) (add_keeps c.0 w.fit k s w.due c.1.0)))
  one_more d _ _ _ (of_remove κs c r e met) sp xs u h w more =
      more d h
      (subst (λ (x : Changed). Due k a d x.table) (sym met)
      (kept d c.0 _ w (remove_fit c.0 w.fit c.1.0) (remove_keeps c.0 w.fit k s w.due c.1.0 (λ q. sp.1 (ap Remove q)))))
  one_more d _ _ _ (of_mark κs c r e met) sp xs u h w more =
      more d h
      (subst (λ (x : Changed). Due k a d x.table) (sym met)
      (kept d c.0 _ w (due_fit c.0 w.fit c.1.0 true) (mark_keeps c.0 w.fit k s w.due c.1.0)))
  one_more d _ _ _ (of_clear κs c r e met) sp xs u h w more =
      more d h
      (subst (λ (x : Changed). Due k a d x.table) (sym met)
      (kept d c.0 _ w (due_fit c.0 w.fit c.1.0 false) (clear_keeps c.0 w.fit k s w.due c.1.0 (λ q. sp.0 (ap Clear q)))))
  one_more d _ _ _ (of_turn κs c r e met) sp xs u h w more = turn_taken d c.0 r xs u met h w more

  outcome : (xs : List Exchange) (t u : Table) → Course t xs u → EachCall (Spared k) xs → Onward xs u t
  unfolding Course EachCall turns_in NoneRefused
  outcome [] t u c sp d h w = inr (record { due = ap (λ (x : Table). is_due x k) c ∙ w.due; few = omega arith; unrefused = tt })
  outcome (x ∷ xs) t u c sp d h w = one_more d t x c.0 c.1 sp.0 xs u h w (outcome xs c.0 u c.2 sp.1)

module _ (t : Table) (xs : List Exchange) (u : Table) (k : ℕ) (f : unfit t ≡ false) (s : IsSlot k) (due : is_due t k ≡ true) (c : Course t xs u) (spares : EachCall (Spared k) xs) where
  -- From any table that 20 does not refuse, whatever the calls, and however many: slot k is given within 32 turns, or there were fewer and it is
  -- still due; and until then no turn is refused.
  pub fair_so_far : GivenWithin 32 k (address_of t k) (turns_in xs) ⊎ Waits 32 k (turns_in xs) u
  fair_so_far =
      let r = reached t.last k s in
      let h : r.0 < 32 = r.1 in
      ⊎_elim
      (λ (g : GivenWithin (suc r.0) k (address_of t k) (turns_in xs)).
      inl (record { before = g.before; after = g.after; given = g.given; soon = omega (arith, g.soon); unrefused = g.unrefused }))
      (λ (w : Waits (suc r.0) k (turns_in xs) u). inr (record { due = w.due; few = omega (arith, w.few); unrefused = w.unrefused }))
      (outcome k s (address_of t k) xs t u c spares r.0 h (record { fit = is_fit t f; due = due; address = refl; ahead = r.2 }))

  -- where 32 turns are among them, it is given
  pub fair : 32 ≤ length (turns_in xs) → GivenWithin 32 k (address_of t k) (turns_in xs)
  fair many = ⊎_elim (λ (g : GivenWithin 32 k (address_of t k) (turns_in xs)). g) (λ (w : Waits 32 k (turns_in xs) u). absurd (omega (arith, w.few))) fair_so_far
