-- Demand 3, its second half: whenever completion is reported, the bytes are the joined parts accepted from the last accepted START on.
-- Assumes nothing.
use mathlib.Core.Path.{◌≡◌, refl, sym, ap, subst, ◌∙◌}
use mathlib.Core.Logic.{⊎_elim}
use mathlib.Core.Bool.{Bool, true, false, cond, false≢true}
use mathlib.Core.List.{List, [], ◌∷◌, ◌++◌, append-nil, append_assoc}
use Prim.Native.Nat.{ℕ, ◌+◌}
use native.Mathlib.Nat.{add-zero, zero-add, add_assoc}
use lib.ListN.{length, take, length-append}
use lib.Seq.{sets}
use Rattle.sm160_frame.specs.Layout.{offset_of, part_of, is_start, is_end}
use Rattle.sm160_frame.specs.Reading.{frame_fault}
use Rattle.sm160_frame.specs.Carried.{Carries, none, InTurn, joined}
use Rattle.sm160_datagram.specs.Reading.{datagram_fault}
use Rattle.sm160_receiver.specs.Receiving.{reached, file_with, state_after}
use Rattle.sm160_receiver.specs.declared.Receiver.{Receiver}
use Rattle.std.specs.Prelude.{Ok}
use Rattle.sm160_receiver.specs.declared.Progress.TheVariants.{Complete}
use Rattle.demand3.specs.Feeding.{Side, side, Exchange, exchange, EndsWith, Fed, ByStep, Steps}
use Rattle.demand3.specs.Completion.{is_refused, accepted_frames, keep_from, since_start, HoldsFile}
use Rattle.demand3.proofs.Taking.{take_sets, reply_complete, Taken, either_way, taken_not, FitFor, opened_as, fit_opened, fit_next}

-- ---- lists of frames

-- whether the frame after these is to have START
starting : Bool → List (List ℕ) → Bool
starting start [] = start
starting start (f ∷ fs) = starting false fs

snoc_some : (fs : List (List ℕ)) (f : List ℕ) → none (fs ++ (f ∷ [])) ≡ false
snoc_some [] f = refl
snoc_some (g ∷ fs) f = refl

starting_snoc : (start : Bool) (fs : List (List ℕ)) (f : List ℕ) → starting start (fs ++ (f ∷ [])) ≡ false
unfolding starting
starting_snoc start [] f = refl
starting_snoc start (g ∷ fs) f = starting_snoc false fs f

joined_snoc : (fs : List (List ℕ)) (f : List ℕ) → joined (fs ++ (f ∷ [])) ≡ joined fs ++ part_of f
unfolding joined
joined_snoc [] f = append-nil (part_of f)
joined_snoc (g ∷ fs) f = ap (λ (l : List ℕ). part_of g ++ l) (joined_snoc fs f) ∙ sym (append_assoc (part_of g) (joined fs) (part_of f))

-- the kept frames after one frame more, refused or not
abbrev grown : Bool → List (List ℕ) → List ℕ → List (List ℕ)
grown refused kept f = cond refused kept (cond (is_start f) [] kept ++ (f ∷ []))

keep_next : (refused : Bool) (kept : List (List ℕ)) (f : List ℕ) (fs : List (List ℕ)) → keep_from (grown refused kept f) fs ≡ keep_from kept (cond refused fs (f ∷ fs))
unfolding keep_from
keep_next true kept f fs = refl
keep_next false kept f fs = refl

-- a frame that completes
abbrev pub completing : List ℕ → ℕ → List Exchange
completing f n = exchange f (Ok (Complete n)) ∷ []

-- ---- at a receiver of a session and a limit
module _ (session limit : ℕ) where
  -- frames that carry the beginning of a file: as `InTurn`, but END is on none
  Begin : ℕ → Bool → List (List ℕ) → Type 0
  Begin place start [] = Unit {0}
  Begin place start (f ∷ fs) = Carries session limit place start false f × Begin (place + length (part_of f)) false fs

  -- f is the next after these
  abbrev Next : ℕ → Bool → List (List ℕ) → Bool → List ℕ → Type 0
  Next place start fs end f = Carries session limit (place + length (joined fs)) (starting start fs) end f

  next_first : (place : ℕ) (start end : Bool) (f : List ℕ) → Next place start [] end f → Carries session limit place start end f
  unfolding joined starting
  next_first place start end f c = subst (λ (k : ℕ). Carries session limit k start end f) (add-zero place) c

  next_rest : (place : ℕ) (start : Bool) (g : List ℕ) (fs : List (List ℕ)) (end : Bool) (f : List ℕ)
      → Next place start (g ∷ fs) end f → Next (place + length (part_of g)) false fs end f
  unfolding joined starting
  next_rest place start g fs end f c =
      subst (λ (k : ℕ). Carries session limit k (starting false fs) end f)
      (ap (λ (k : ℕ). place + k) (length-append (part_of g) (joined fs)) ∙ sym (add_assoc place (length (part_of g)) (length (joined fs)))) c

  -- one frame more: without END, and with it
  begin_snoc : (place : ℕ) (start : Bool) (fs : List (List ℕ)) (f : List ℕ)
      → Begin place start fs → Next place start fs false f → Begin place start (fs ++ (f ∷ []))
  unfolding Begin
  begin_snoc place start [] f b c = (next_first place start false f c, tt)
  begin_snoc place start (g ∷ fs) f b c =
      (b.0, begin_snoc (place + length (part_of g)) false fs f b.1 (next_rest place start g fs false f c))

  turn_snoc : (place : ℕ) (start : Bool) (fs : List (List ℕ)) (f : List ℕ)
      → Begin place start fs → Next place start fs true f → InTurn session limit place start (fs ++ (f ∷ []))
  unfolding Begin InTurn
  turn_snoc place start [] f b c = (next_first place start true f c, tt)
  turn_snoc place start (g ∷ fs) f b c = (
    subst (λ (end : Bool). Carries session limit place start end g) (sym (snoc_some fs f)) b.0,
    turn_snoc (place + length (part_of g)) false fs f b.1 (next_rest place start g fs true f c),
  )

  -- ---- a receiver with a file under way holds the kept frames' parts
  record Begun (n : ℕ) (b : List ℕ) (fs : List (List ℕ)) : Type 0 where
    some : starting true fs ≡ false
    begin : Begin 0 true fs
    count : n ≡ length (joined fs)
    bytes : take n b ≡ joined fs

  abbrev Sound : Side → List (List ℕ) → Type 0
  Sound σ kept = σ.state.under_way ≡ true → Begun σ.state.count σ.buffer kept

  -- the frames that f is added to, none where it has START
  record Before (σ : Side) (f : List ℕ) (fs : List (List ℕ)) : Type 0 where
    begin : Begin 0 true fs
    starts : starting true fs ≡ is_start f
    place : offset_of f ≡ length (joined fs)
    bytes : take (offset_of f) σ.buffer ≡ joined fs

  before : (start : Bool) (σ : Side) (kept : List (List ℕ)) (f : List ℕ) → is_start f ≡ start → Taken σ f → Sound σ kept
      → Before σ f (cond start [] kept)
  unfolding Begin starting joined
  before true σ kept f e t h =
      let z = t.at_start e in
      record { begin = tt; starts = sym e; place = z; bytes = ap (λ (k : ℕ). take k σ.buffer) z }
  before false σ kept f e t h =
      let w = h (t.going e) in
      let z = t.at_count e in
      record { begin = w.begin; starts = w.some ∙ sym e; place = z ∙ w.count; bytes = ap (λ (k : ℕ). take k σ.buffer) z ∙ w.bytes }

  -- f is taken at σ, after the frames fs
  module _ (m : ℕ) (σ : Side) (f : List ℕ) (fs : List (List ℕ)) (i : FitFor session limit m σ) (t : Taken σ f) (h : Before σ f fs) where
    abbrev Stored : List ℕ
    Stored = sets σ.buffer (offset_of f) (part_of f)

    take_stored : take (reached f) Stored ≡ file_with σ.buffer f
    unfolding reached
    take_stored = take_sets σ.buffer (offset_of f) (part_of f) t.room

    stored_bytes : take (reached f) Stored ≡ joined (fs ++ (f ∷ []))
    stored_bytes = take_stored ∙ ap (λ (l : List ℕ). l ++ part_of f) h.bytes ∙ sym (joined_snoc fs f)

    stored_count : reached f ≡ length (joined (fs ++ (f ∷ [])))
    unfolding reached
    stored_count =
        ap (λ (k : ℕ). k + length (part_of f)) h.place ∙ sym (length-append (joined fs) (part_of f)) ∙ ap length (sym (joined_snoc fs f))

    next : (end : Bool) → is_end f ≡ end → Next 0 true fs end f
    next end e =
        record {
          good = subst (λ (k : ℕ). frame_fault k f ≡ 0) i.agreed t.good;
          ours = t.ours ∙ i.ours;
          placed = h.place ∙ sym (zero-add (length (joined fs)));
          starts = sym h.starts;
          ends = e;
        }

    holds_file : is_end f ≡ true → HoldsFile session limit (reached f) Stored (fs ++ (f ∷ []))
    holds_file e =
        record {
          datagram = ap datagram_fault take_stored ∙ t.whole e;
          count = stored_count;
          carried = record { whole = sym stored_bytes; turns = turn_snoc 0 true fs f h.begin (next true e) };
        }

    sound : (end : Bool) (s : Receiver) → is_end f ≡ end → Sound (side (state_after end s (reached f)) Stored) (fs ++ (f ∷ []))
    sound true s e u = absurd (false≢true u)
    sound false s e u =
        record {
          some = starting_snoc true fs f;
          begin = begin_snoc 0 true fs f h.begin (next false e);
          count = stored_count;
          bytes = stored_bytes;
        }

  sound_next : (m : ℕ) (σ : Side) (kept : List (List ℕ)) (x : Exchange) (τ : Side) → ByStep σ x τ → FitFor session limit m σ → Sound σ kept
      → Sound τ (grown (is_refused x.answer) kept x.frame)
  sound_next m σ kept x τ e i h =
      let f = x.frame in
      ⊎_elim
      (λ w. subst (λ (refused : Bool). Sound τ (grown refused kept f)) (sym (ap is_refused w.answered))
      (subst (λ (ρ : Side). Sound ρ kept) (sym w.same) h))
      (λ w. subst (λ (refused : Bool). Sound τ (grown refused kept f)) (sym (taken_not σ x τ w))
      (subst (λ (ρ : Side). Sound ρ (grown false kept f)) (sym w.lands)
      (sound m σ f (cond (is_start f) [] kept) i w.able (before (is_start f) σ kept f refl w.able h) (is_end f) σ.state refl)))
      (either_way σ x τ e)

  completes : (m : ℕ) (σ : Side) (kept : List (List ℕ)) (earlier : List Exchange) (f : List ℕ) (n : ℕ) (τ : Side) → FitFor session limit m σ → Sound σ kept
      → Fed ByStep σ (earlier ++ completing f n) τ → HoldsFile session limit n τ.buffer (keep_from kept (accepted_frames (earlier ++ completing f n)))
  unfolding Fed accepted_frames keep_from
  completes m σ kept [] f n τ i h e =
      let fs = cond (is_start f) [] kept in
      ⊎_elim (λ w. absurd (false≢true (ap is_refused w.answered)))
      (λ w.
      let c = reply_complete (is_end f) (reached f) n (sym w.answered) in
      let buffer : τ.buffer ≡ sets σ.buffer (offset_of f) (part_of f) = ap (λ (ρ : Side). ρ.buffer) (e.2 ∙ w.lands) in
      subst (λ (k : ℕ). HoldsFile session limit k τ.buffer (fs ++ (f ∷ []))) c.1
      (subst (λ (b : List ℕ). HoldsFile session limit (reached f) b (fs ++ (f ∷ []))) (sym buffer)
      (holds_file m σ f fs i w.able (before (is_start f) σ kept f refl w.able h) c.0)))
      (either_way σ _ e.0 e.1)
  completes m σ kept (x ∷ earlier) f n τ i h e =
      let refused = is_refused x.answer in
      subst (HoldsFile session limit n τ.buffer) (keep_next refused kept x.frame (accepted_frames (earlier ++ completing f n)))
      (completes m e.0 (grown refused kept x.frame) earlier f n τ (fit_next session limit m σ x e.0 e.1 i) (sound_next m σ kept x e.0 e.1 i h) e.2)

-- ---- the demand

-- A receiver is opened, lent b and fed any frames. Where the last is answered with completion at n: the first n bytes of the buffer are a
-- well-formed datagram, and the joined parts of the frames accepted from the last accepted START on, without gap or repeat.
pub completed : (session limit : ℕ) (b : List ℕ) (xs : List Exchange) (τ : Side) (n : ℕ)
    → Steps session limit b xs τ → EndsWith (Ok (Complete n)) xs → HoldsFile session limit n τ.buffer (since_start (accepted_frames xs))
completed session limit b xs τ n s w =
    let σ = side s.0 b in
    let idle : s.0.under_way ≡ false = ap (λ (r : Receiver). r.under_way) (opened_as session limit s.0 s.1).0 in
    subst (λ (l : List Exchange). HoldsFile session limit n τ.buffer (since_start (accepted_frames l))) (sym w.2)
    (completes session limit (length b) σ [] w.0 w.1 n τ (fit_opened session limit s.0 b s.1) (λ e. absurd (false≢true (sym idle ∙ e)))
    (subst (λ (l : List Exchange). Fed ByStep σ l τ) w.2 s.2))
