-- A frame is refused, and nothing changes, or it is taken: what holds where it is.
-- Assumes nothing.
use mathlib.Core.Path.{◌≡◌, refl, sym, ap, subst, ◌∙◌}
use mathlib.Core.Logic.{◌⊎◌, inl, inr, ⊎_elim}
use mathlib.Core.Bool.{Bool, true, false, not, ◌&&◌, false≢true}
use mathlib.Core.List.{List, [], ◌∷◌, ◌++◌}
use Prim.Native.Nat.{ℕ, zero, suc, ◌+◌, ◌-◌, ◌≤◌, ◌<◌}
use native.Mathlib.Omega.{arith}
use borrow.Author.Tests.{ltb-false, eqb-true, not-true, not-false, le-ltb, eq-eqb, ne_eqb}
use lib.Dec.{eqb, ltb}
use lib.ListN.{length, take, drop, length-append}
use lib.Seq.{sets, length-sets, sets-eq, take_at, length-take-le, drop-append-add, drop-drop}
use Rattle.wire.specs.Refusal.{first, NoneHolds}
use Rattle.wire.proofs.Answer.{accepted_as}
use Rattle.wire.proofs.Rules.{first_none, none_first, none_append, none_both, asked, unasked}
use Rattle.sm160_frame.specs.Layout.{session_of, offset_of, part_of, is_start, is_end}
use Rattle.sm160_frame.specs.Reading.{bad_largest, frame_rules, frame_fault}
use Rattle.sm160_frame.proofs.Limit.{part_within}
use Rattle.sm160_datagram.specs.Reading.{datagram_rules, datagram_fault}
use Rattle.sm160_receiver.specs.Receiving.{opened, open_rules, opening, reached, unfit, place_rules, file_with, file_rules, up_to31, receive_rules, refusal, reply, state_after, After, Took}
use Rattle.sm160_receiver.specs.declared.Receiver.{Receiver}
use Rattle.sm160_receiver.specs.declared.Progress.TheVariants.{Complete}
use Rattle.std.specs.Prelude.{Ok, Err}
use Rattle.wire.specs.Numbered.{refusal as by_number}
use Rattle.wire.specs.declared.refusals.Refusal.{Refusal}
use Rattle.sm160_receiver.proofs.Steps.{step_refused, step_accepted}
use Rattle.demand3.specs.Feeding.{Side, side, Exchange, Fed, ByStep}
use Rattle.demand3.specs.Completion.{is_refused}
use Rattle.demand3.specs.OneFile.{Accepted}

-- ---- a part that is stored
module _ (b : List ℕ) (place : ℕ) (p : List ℕ) (h : place + length p ≤ length b) where
  length_head : length (take place b ++ p) ≡ place + length p
  length_head = length-append (take place b) p ∙ ap (λ (k : ℕ). k + length p) (length-take-le place b (omega arith))

  -- up to the part's end the buffer is what stood before the part, and the part
  pub take_sets : take (place + length p) (sets b place p) ≡ take place b ++ p
  take_sets =
      ap (take (place + length p)) (sets-eq p b place h) ∙ take_at (take place b ++ p) (drop (place + length p) b) (place + length p) length_head

  -- behind the part it is as it was
  pub drop_sets : (n : ℕ) → place + length p ≤ n → drop n (sets b place p) ≡ drop n b
  drop_sets n k =
      let m = place + length p in
      let head = take place b ++ p in
      let more : n ≡ length head + (n - m) = omega (arith, length_head) in
      let again : m + (n - m) ≡ n = omega arith in
      ap (drop n) (sets-eq p b place h)
      ∙ ap (λ (j : ℕ). drop j (head ++ drop m b)) more
      ∙ drop-append-add head (drop m b) (n - m)
      ∙ drop-drop (n - m) m b
      ∙ ap (λ (j : ℕ). drop j b) again

-- ---- a frame is taken where no rule holds
and_no : (a b : Bool) → (a ≡ true → b ≡ false) → (a && b) ≡ false
and_no true b h = h refl
and_no false b h = refl

pub record Taken (σ : Side) (f : List ℕ) : Type 0 where
  pub fit : unfit σ.state σ.buffer ≡ false
  pub good : frame_fault σ.state.limit f ≡ 0
  pub ours : session_of f ≡ σ.state.session
  pub going : is_start f ≡ false → σ.state.under_way ≡ true
  pub at_start : is_start f ≡ true → offset_of f ≡ 0
  pub at_count : is_start f ≡ false → offset_of f ≡ σ.state.count
  pub room : reached f ≤ length σ.buffer
  pub whole : is_end f ≡ true → datagram_fault (file_with σ.buffer f) ≡ 0

taken_of : (σ : Side) (f : List ℕ) → refusal σ.state σ.buffer f ≡ 0 → Taken σ f
unfolding refusal frame_fault datagram_fault
taken_of σ f e =
    let s = σ.state in
    let h = none_first (receive_rules s σ.buffer f) tt e in
    let files = file_rules σ.buffer f in
    let all = none_append (up_to31 s σ.buffer f) files h in
    let both = none_append (frame_rules s.limit f) (place_rules s σ.buffer f) all.0.1 in
    let p = both.1 in
    record {
      fit = all.0.0;
      good = first_none (frame_rules s.limit f) both.0;
      ours = eqb-true _ _ (not-false _ p.0);
      going = λ q. not-false _ (rw q at p.1.0);
      at_start = λ q. eqb-true _ _ (not-false _ (rw q at p.1.1.0));
      at_count = λ q.
          let lo : s.count ≤ offset_of f = ltb-false _ _ (rw q at p.1.1.1.0) in
          let hi : offset_of f ≤ s.count = ltb-false _ _ (rw q at p.1.1.1.1.0) in
          omega arith;
      room = ltb-false _ _ p.1.1.1.1.1.0;
      whole = λ q. sym (asked (is_end f) (datagram_rules (file_with σ.buffer f)) q) ∙ first_none files all.1;
    }

-- a file that is a datagram wherever it is asked
of_whole : (b f : List ℕ) (end : Bool) → is_end f ≡ end → (is_end f ≡ true → datagram_fault (file_with b f) ≡ 0) → NoneHolds (file_rules b f)
unfolding datagram_fault
of_whole b f true e h = none_first (file_rules b f) tt (asked (is_end f) (datagram_rules (file_with b f)) e ∙ h e)
of_whole b f false e h = unasked (is_end f) (datagram_rules (file_with b f)) e

of_taken : (σ : Side) (f : List ℕ) → Taken σ f → refusal σ.state σ.buffer f ≡ 0
unfolding refusal frame_fault
of_taken σ f t =
    let s = σ.state in
    let at = offset_of f in
    let not-27 = and_no (not (is_start f)) (not s.under_way) (λ q. ap not (t.going (not-true _ q))) in
    let not-28 = and_no (is_start f) (not (eqb at 0)) (λ q. ap not (eq-eqb _ _ (t.at_start q))) in
    let not-29 = and_no (not (is_start f)) (ltb at s.count) (λ q. let z = t.at_count (not-true _ q) in le-ltb at s.count (omega arith)) in
    let not-30 = and_no (not (is_start f)) (ltb s.count at) (λ q. let z = t.at_count (not-true _ q) in le-ltb s.count at (omega arith)) in
    let up-to-31 = none_both (frame_rules s.limit f) (place_rules s σ.buffer f) (none_first (frame_rules s.limit f) tt t.good)
    (ap not (eq-eqb _ _ t.ours), (not-27, (not-28, (not-29, (not-30, (le-ltb _ _ t.room, tt)))))) in
    first_none (receive_rules s σ.buffer f)
    (none_both (up_to31 s σ.buffer f) (file_rules σ.buffer f) (t.fit, up-to-31) (of_whole σ.buffer f (is_end f) refl t.whole))

-- ---- one frame: the two ways

-- what is left where it is taken
abbrev pub landed : Side → List ℕ → Side
landed σ f = side (state_after (is_end f) σ.state (reached f)) (sets σ.buffer (offset_of f) (part_of f))

pub record IsRefused (σ : Side) (x : Exchange) (τ : Side) : Type 0 where
  pub why : Refusal
  pub answered : x.answer ≡ Err why
  pub same : τ ≡ σ

pub record IsTaken (σ : Side) (x : Exchange) (τ : Side) : Type 0 where
  pub able : Taken σ x.frame
  pub answered : x.answer ≡ reply (is_end x.frame) (reached x.frame)
  pub lands : τ ≡ landed σ x.frame

abbrev side_of : After → Side
side_of o = side o.state o.buffer

pub takes : (σ : Side) (x : Exchange) (τ : Side) → ByStep σ x τ → Taken σ x.frame → IsTaken σ x τ
unfolding Took
takes σ x τ e able =
    let a = e ∙ step_accepted σ.state x.frame σ.buffer (of_taken σ x.frame able) in
    record { able = able; answered = ap (λ (o : After). o.answer) a; lands = ap side_of a }

pub either_way : (σ : Side) (x : Exchange) (τ : Side) → ByStep σ x τ → IsRefused σ x τ ⊎ IsTaken σ x τ
unfolding Took
either_way σ x τ e = go (refusal σ.state σ.buffer x.frame) refl
  where
    go : (n : ℕ) → refusal σ.state σ.buffer x.frame ≡ n → IsRefused σ x τ ⊎ IsTaken σ x τ
    go zero z = inr (takes σ x τ e (taken_of σ x.frame z))
    go (suc n) z =
        let r = e ∙ step_refused σ.state x.frame σ.buffer (suc n) (sym z) (λ q. omega arith) in
        inl (record { why = by_number (suc n); answered = ap (λ (o : After). o.answer) r; same = ap side_of r })

reply_not : (end : Bool) (n : ℕ) → is_refused (reply end n) ≡ false
reply_not true n = refl
reply_not false n = refl

-- what is taken is not answered with a refusal
pub taken_not : (σ : Side) (x : Exchange) (τ : Side) → IsTaken σ x τ → is_refused x.answer ≡ false
taken_not σ x τ w = ap is_refused w.answered ∙ reply_not (is_end x.frame) (reached x.frame)

-- and what is not answered with one is taken
pub accepted_taken : (σ : Side) (x : Exchange) (τ : Side) → ByStep σ x τ → Accepted x → IsTaken σ x τ
accepted_taken σ x τ e a = ⊎_elim (λ w. absurd (false≢true (sym a ∙ ap is_refused w.answered))) (λ w. w) (either_way σ x τ e)

-- an answer of completion: END is set, and the length is where the frame's part ends
pub reply_complete : (end : Bool) (m n : ℕ) → reply end m ≡ Ok (Complete n) → (end ≡ true) × (m ≡ n)
reply_complete true m n e = (refl, (cc))
reply_complete false m n e = absurd (let z : ◌≡◌ {A = ℕ} 0 1 = cc in omega arith)

-- a refusal changes nothing
pub unchanged : (σ : Side) (x : Exchange) (τ : Side) (why : Refusal) → ByStep σ x τ → x.answer ≡ Err why → τ ≡ σ
unchanged σ x τ why e r = ⊎_elim (λ w. w.same) (λ w. absurd (false≢true (sym (taken_not σ x τ w) ∙ ap is_refused r))) (either_way σ x τ e)

-- ---- what opening set is kept: a frame sets neither session nor limit
pub record Keeps (σ τ : Side) : Type 0 where
  pub session : τ.state.session ≡ σ.state.session
  pub limit : τ.state.limit ≡ σ.state.limit

keeps_after : (end : Bool) (s : Receiver) (n : ℕ) (b b' : List ℕ) → Keeps (side s b) (side (state_after end s n) b')
keeps_after true s n b b' = record { session = refl; limit = refl }
keeps_after false s n b b' = record { session = refl; limit = refl }

pub keeps_next : (σ : Side) (x : Exchange) (τ : Side) → ByStep σ x τ → Keeps σ τ
keeps_next σ x τ e =
    ⊎_elim (λ w. subst (Keeps σ) (sym w.same) (record { session = refl; limit = refl }))
    (λ w. subst (Keeps σ) (sym w.lands) (keeps_after (is_end x.frame) σ.state (reached x.frame) _ _))
    (either_way σ x τ e)

-- ---- a receiver of a session and a limit that is fit for its buffer, of m bytes, stays so

-- a good frame's part has a byte or more, so it reaches beyond 0
reaches : (limit : ℕ) (f : List ℕ) → frame_fault limit f ≡ 0 → 0 < reached f
unfolding reached
reaches limit f e = omega (arith, (part_within limit f e).0)

fit_after : (end : Bool) (s : Receiver) (n : ℕ) (b : List ℕ) → bad_largest s.limit ≡ false → 0 < n → n ≤ length b → unfit (state_after end s n) b ≡ false
unfolding unfit
fit_after true s n b l h k = simp (le-ltb (length b) 0 (omega arith)) l
fit_after false s n b l h k = simp (le-ltb (length b) n k, ne_eqb n 0 (λ e. omega arith)) l

module _ (session limit m : ℕ) where
  pub record FitFor (σ : Side) : Type 0 where
    pub ours : σ.state.session ≡ session
    pub agreed : σ.state.limit ≡ limit
    pub good : bad_largest limit ≡ false
    pub room : length σ.buffer ≡ m
    pub fit : unfit σ.state σ.buffer ≡ false

  fit_landed : (σ : Side) (f : List ℕ) → FitFor σ → Taken σ f → FitFor (landed σ f)
  fit_landed σ f i t =
      let s = σ.state in
      let kept = keeps_after (is_end f) s (reached f) σ.buffer (landed σ f).buffer in
      let same = length-sets σ.buffer (offset_of f) (part_of f) in
      record {
        ours = kept.session ∙ i.ours;
        agreed = kept.limit ∙ i.agreed;
        good = i.good;
        room = same ∙ i.room;
        fit = fit_after (is_end f) s (reached f) _ (ap bad_largest i.agreed ∙ i.good) (reaches s.limit f t.good) (omega (arith, t.room, same));
      }

  pub fit_next : (σ : Side) (x : Exchange) (τ : Side) → ByStep σ x τ → FitFor σ → FitFor τ
  fit_next σ x τ e i =
      ⊎_elim (λ w. subst FitFor (sym w.same) i)
      (λ w. subst FitFor (sym w.lands) (fit_landed σ x.frame i w.able))
      (either_way σ x τ e)

  pub fit_fed : (σ : Side) (xs : List Exchange) (τ : Side) → Fed ByStep σ xs τ → FitFor σ → FitFor τ
  unfolding Fed
  fit_fed σ [] τ e i = subst FitFor (sym e) i
  fit_fed σ (x ∷ xs) τ h i = fit_fed h.0 xs τ h.2 (fit_next σ x h.0 h.1 i)

-- where `open` does not refuse
pub opened_as : (session limit : ℕ) (s : Receiver) → opening session limit ≡ Ok s → (s ≡ opened session limit) × (bad_largest limit ≡ false)
unfolding opening
opened_as session limit s e =
    let ok = accepted_as (opened session limit) (first (open_rules limit)) s e in
    (sym ok.1, (none_first (open_rules limit) tt ok.0).0)

pub fit_opened : (session limit : ℕ) (s : Receiver) (b : List ℕ) → opening session limit ≡ Ok s → FitFor session limit (length b) (side s b)
unfolding unfit
fit_opened session limit s b e =
    let o = opened_as session limit s e in
    subst (λ (r : Receiver). FitFor session limit (length b) (side r b)) (sym o.0)
    (record { ours = refl; agreed = refl; good = o.1; room = refl; fit = simp (le-ltb (length b) 0 (omega arith)) o.1 })
