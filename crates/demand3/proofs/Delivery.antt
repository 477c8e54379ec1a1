-- Demand 3, its first half: a file that arrives is delivered, whatever came before it and whatever is refused between its frames.
-- Assumes nothing.
use mathlib.Core.Path.{◌≡◌, refl, sym, ap, ap₂, subst, ◌∙◌}
use mathlib.Core.Bool.{Bool, true, false, true≢false, false≢true}
use mathlib.Core.List.{List, [], ◌∷◌, ◌++◌, append-nil, append_assoc}
use Prim.Native.Nat.{ℕ, ◌+◌, ◌≤◌}
use native.Mathlib.Nat.{add-zero, add_assoc}
use native.Mathlib.Omega.{arith}
use lib.ListN.{length, take, length-append}
use lib.Seq.{sets}
use Rattle.wire.specs.Numbers.{over}
use Rattle.wire.proofs.Writing.{sets_append, sets_over}
use Rattle.sm160_frame.specs.Layout.{part_of}
use Rattle.sm160_frame.specs.Reading.{frame_fault}
use Rattle.sm160_frame.specs.Carried.{Carries, none, InTurn, joined, Carried}
use Rattle.sm160_datagram.specs.Reading.{datagram_fault}
use Rattle.sm160_datagram.proofs.Bytes.{datagram_length}
use Rattle.sm160_receiver.specs.Receiving.{opened, holding, reached, reply, state_after}
use Rattle.sm160_receiver.specs.declared.Receiver.{Receiver}
use Rattle.std.specs.Prelude.{Ok}
use Rattle.sm160_receiver.specs.declared.Progress.TheVariants.{Held, Complete}
use Rattle.demand3.specs.Feeding.{Side, side, Exchange, exchange, frames_of, EndsWith, Fed, ByStep, Steps}
use Rattle.demand3.specs.Arrival.{Item, file_frame, other_frame, all, own, Arrives, counts, Delivered, file_frames}
use Rattle.demand3.proofs.Taking.{take_sets, takes, unchanged, FitFor, fit_opened, fit_next, fit_fed}

-- what a frame does not set is as it was opened
after : (end : Bool) (s : Receiver) (n : ℕ) → state_after end s n ≡ state_after end (opened s.session s.limit) n
after true s n = refl
after false s n = refl

-- what all that comes in comes to, from the place of the file's next part on
record Given (place : ℕ) (σ : Side) (is : List Item) (τ : Side) : Type 0 where
  counted : own is ≡ counts place (frames_of (own is))
  stored : τ.buffer ≡ sets σ.buffer place (joined (frames_of (own is)))

-- what is held and what is to come is a datagram: so at END, where nothing is to come, what is held and the part is one
at_end_lem : (held p : List ℕ) (fs : List (List ℕ)) → datagram_fault (held ++ (p ++ joined fs)) ≡ 0 → none fs ≡ true → datagram_fault (held ++ p) ≡ 0
unfolding joined
at_end_lem held p [] v q = ap (λ (l : List ℕ). datagram_fault (held ++ l)) (sym (append-nil p)) ∙ v
at_end_lem held p (f ∷ fs) v q = absurd (false≢true q)

-- ---- at a receiver of a session and a limit that is fit for its buffer, of m bytes
module _ (session limit m : ℕ) where
  -- where a receiver stands as a part is to come: anywhere before the first, and at the part's place before another
  record Ready (place : ℕ) (start : Bool) (σ : Side) : Type 0 where
    first : start ≡ true → place ≡ 0
    later : start ≡ false → σ.state ≡ holding session limit place

  -- the part is put in its place, and answered with the bytes up to its end
  record Placed (place : ℕ) (end : Bool) (σ : Side) (x : Exchange) (τ : Side) : Type 0 where
    answered : x ≡ exchange x.frame (reply end (place + length (part_of x.frame)))
    goes_on : τ.state ≡ state_after end (opened session limit) (place + length (part_of x.frame))
    stored : τ.buffer ≡ sets σ.buffer place (part_of x.frame)

  placed : (place : ℕ) (start end : Bool) (σ : Side) (x : Exchange) (τ : Side) → ByStep σ x τ → FitFor session limit m σ → Ready place start σ
      → Carries session limit place start end x.frame → place + length (part_of x.frame) ≤ m
      → (end ≡ true → datagram_fault (take place σ.buffer ++ part_of x.frame) ≡ 0) → Placed place end σ x τ
  unfolding reached
  placed place start end σ x τ e i h g k v =
      let p = part_of x.frame in
      let reach : reached x.frame ≡ place + length p = ap (λ (n : ℕ). n + length p) g.placed in
      let w = takes σ x τ e (record {
        fit = i.fit;
        good = subst (λ (n : ℕ). frame_fault n x.frame ≡ 0) (sym i.agreed) g.good;
        ours = g.ours ∙ sym i.ours;
        going = λ q. ap (λ (s : Receiver). s.under_way) (h.later (sym g.starts ∙ q));
        at_start = λ q. g.placed ∙ h.first (sym g.starts ∙ q);
        at_count = λ q. g.placed ∙ sym (ap (λ (s : Receiver). s.count) (h.later (sym g.starts ∙ q)));
        room = omega (arith, reach, i.room);
        whole = λ q. ap (λ (n : ℕ). datagram_fault (take n σ.buffer ++ p)) g.placed ∙ v (sym g.ends ∙ q);
      }) in
      record {
        answered = ap (exchange x.frame) (w.answered ∙ ap₂ reply g.ends reach);
        goes_on =
            ap (λ (ρ : Side). ρ.state) w.lands
            ∙ ap₂ (λ (b : Bool) (n : ℕ). state_after b σ.state n) g.ends reach
            ∙ after end σ.state (place + length p)
            ∙ ap₂ (λ (n k : ℕ). state_after end (opened n k) (place + length p)) i.ours i.agreed;
        stored = ap (λ (ρ : Side). ρ.buffer) w.lands ∙ ap (λ (n : ℕ). sets σ.buffer n p) g.placed;
      }

  arrival : (place : ℕ) (start : Bool) (σ : Side) (is : List Item) (τ : Side) → FitFor session limit m σ
      → (none (frames_of (own is)) ≡ false → Ready place start σ)
      → InTurn session limit place start (frames_of (own is)) → place + length (joined (frames_of (own is))) ≤ m
      → datagram_fault (take place σ.buffer ++ joined (frames_of (own is))) ≡ 0
      → Fed ByStep σ (all is) τ → Given place σ is τ
  unfolding all own counts InTurn joined Fed
  arrival place start σ [] τ i h g k v e = record { counted = refl; stored = ap (λ (ρ : Side). ρ.buffer) e }
  arrival place start σ (other_frame f why ∷ is) τ i h g k v e =
      let rest = subst (λ (ρ : Side). Fed ByStep ρ (all is) τ) (unchanged σ _ e.0 why e.1 refl) e.2 in
      let more = arrival place start σ is τ i h g k v rest in
      record { counted = more.counted; stored = more.stored }
  arrival place start σ (file_frame x ∷ is) τ i h g k v e =
      let p = part_of x.frame in
      let fs = frames_of (own is) in
      let ρ = e.0 in
      let n : length (p ++ joined fs) ≡ length p + length (joined fs) = length-append p (joined fs) in
      let d = placed place start (none fs) σ x ρ e.1 i (h refl) g.0 (omega arith) (at_end_lem (take place σ.buffer) p fs v) in
      let ready : none fs ≡ false → Ready (place + length p) false ρ =
      λ q. record { first = λ z. absurd (false≢true z); later = λ z. d.goes_on ∙ ap (λ (b : Bool). state_after b (opened session limit) (place + length p)) q } in
      let held : take (place + length p) ρ.buffer ++ joined fs ≡ take place σ.buffer ++ (p ++ joined fs) =
      ap (λ (b : List ℕ). take (place + length p) b ++ joined fs) d.stored
      ∙ ap (λ (l : List ℕ). l ++ joined fs) (take_sets σ.buffer place p (omega (arith, i.room)))
      ∙ append_assoc (take place σ.buffer) p (joined fs) in
      let more = arrival (place + length p) false ρ is τ (fit_next session limit m σ x ρ e.1 i) ready g.1 (omega arith) (ap datagram_fault held ∙ v) e.2 in
      record {
        counted = ap₂ (λ (y : Exchange) (ys : List Exchange). y ∷ ys) d.answered more.counted;
        stored = more.stored ∙ ap (λ (b : List ℕ). sets b (place + length p) (joined fs)) d.stored ∙ sets_append σ.buffer place p (joined fs);
      }

  -- the same of a whole file
  given : (σ : Side) (file : List ℕ) (is : List Item) (τ : Side) → FitFor session limit m σ → Carried session limit file (frames_of (own is)) → length file ≤ m
      → datagram_fault file ≡ 0 → Fed ByStep σ (all is) τ → Given 0 σ is τ
  given σ file is τ i c fits v e =
      arrival 0 true σ is τ i (λ q. record { first = λ z. refl; later = λ z. absurd (true≢false z) }) c.turns (omega (arith, ap length c.whole))
      (ap datagram_fault c.whole ∙ v) e

-- ---- frames with nothing between them
pub all_file : (xs : List Exchange) → all (file_frames xs) ≡ xs
unfolding all
all_file [] = refl
all_file (x ∷ xs) = ap (λ (l : List Exchange). x ∷ l) (all_file xs)

pub own_file : (xs : List Exchange) → own (file_frames xs) ≡ xs
unfolding own
own_file [] = refl
own_file (x ∷ xs) = ap (λ (l : List Exchange). x ∷ l) (own_file xs)

-- at a newly opened receiver
alone_counted : (session limit : ℕ) (file b : List ℕ) (alone : List Exchange) (ρ : Side) → Carried session limit file (frames_of alone) → length file ≤ length b
    → datagram_fault file ≡ 0 → Steps session limit b alone ρ → alone ≡ counts 0 (frames_of alone)
alone_counted session limit file b alone ρ c fits v s =
    subst (λ (l : List Exchange). l ≡ counts 0 (frames_of l)) (own_file alone)
    (given session limit (length b) (side s.0 b) file (file_frames alone) ρ (fit_opened session limit s.0 b s.1)
    (subst (λ (l : List Exchange). Carried session limit file (frames_of l)) (sym (own_file alone)) c) fits v
    (subst (λ (l : List Exchange). Fed ByStep (side s.0 b) l ρ) (sym (all_file alone)) s.2)).counted

-- ---- the last answer
counts_end : (place : ℕ) (f : List ℕ) (fs : List (List ℕ)) → EndsWith (Ok (Complete (place + length (joined (f ∷ fs))))) (counts place (f ∷ fs))
unfolding counts joined
counts_end place f [] =
    ([], f, ap (λ (k : ℕ). exchange f (Ok (Complete (place + k))) ∷ []) (sym (length-append (part_of f) [] ∙ add-zero (length (part_of f)))))
counts_end place f (g ∷ fs) =
    let p = part_of f in
    let first : Exchange = exchange f (Ok (Held (place + length p))) in
    let more = counts_end (place + length p) g fs in
    let n : place + length p + length (joined (g ∷ fs)) ≡ place + length (p ++ joined (g ∷ fs)) =
    add_assoc place (length p) (length (joined (g ∷ fs))) ∙ ap (λ (k : ℕ). place + k) (sym (length-append p (joined (g ∷ fs)))) in (
      first ∷ more.0,
      more.1,
      ap (λ (l : List Exchange). first ∷ l) (more.2 ∙ ap (λ (k : ℕ). more.0 ++ (exchange more.1 (Ok (Complete k)) ∷ [])) n),
    )

last_count : (fs : List (List ℕ)) (file : List ℕ) → joined fs ≡ file → 1 ≤ length file → EndsWith (Ok (Complete (length file))) (counts 0 fs)
unfolding joined
last_count [] file e h = absurd (omega (arith, ap length e))
last_count (f ∷ fs) file e h = subst (λ (k : ℕ). EndsWith (Ok (Complete k)) (counts 0 (f ∷ fs))) (omega (arith, ap length e)) (counts_end 0 f fs)

-- ---- the demand

-- A receiver is opened, lent b and fed any frames: it is at σ. Where a file then arrives among the items, and they lead to τ, it is delivered.
pub delivered : (session limit : ℕ) (b : List ℕ) (before : List Exchange) (σ : Side) (file : List ℕ) (is : List Item) (τ : Side)
    → Steps session limit b before σ → Arrives session limit file b is → Fed ByStep σ (all is) τ
    → Delivered Steps session limit file is σ τ
unfolding over
delivered session limit b before σ file is τ s a e =
    let i : FitFor session limit (length b) σ = fit_fed session limit (length b) (side s.0 b) before σ s.2 (fit_opened session limit s.0 b s.1) in
    let g = given session limit (length b) σ file is τ i a.carried a.fits a.datagram e in
    let long = datagram_length file a.datagram in
    record {
      as_new = λ d alone ρ fits new same.
          g.counted
          ∙ ap (counts 0) (sym same)
          ∙ sym (alone_counted session limit file d alone ρ (subst (Carried session limit file) (sym same) a.carried) fits a.datagram new);
      counted = g.counted;
      complete = subst (EndsWith (Ok (Complete (length file)))) (sym g.counted) (last_count (frames_of (own is)) file a.carried.whole (omega arith));
      bytes = g.stored ∙ ap (sets σ.buffer 0) a.carried.whole ∙ sets_over σ.buffer file (omega (arith, a.fits, i.room));
    }
