-- One file, cut in two ways: from an accepted START on the bytes held are the file's, wherever it is cut, and a completion reports it.
-- Assumes nothing.
use mathlib.Core.Path.{◌≡◌, refl, sym, ap, ap₂, subst, ◌∙◌}
use mathlib.Core.Logic.{⊎_elim}
use mathlib.Core.Bool.{Bool, true, false, false≢true}
use mathlib.Core.List.{List, [], ◌∷◌, ◌++◌}
use Prim.Native.Nat.{ℕ, ◌+◌, ◌≤◌, ◌<◌}
use native.Mathlib.Nat.{min-le_right}
use native.Mathlib.Omega.{arith}
use lib.ListN.{length, take, drop, length-take, length-drop, take-append-drop}
use lib.Seq.{sets, take-add, take-length}
use Rattle.sm160_frame.specs.Layout.{offset_of, part_of, is_start, is_end}
use Rattle.sm160_frame.proofs.Limit.{part_within}
use Rattle.sm160_receiver.specs.Receiving.{reached, state_after}
use Rattle.std.specs.Prelude.{Ok}
use Rattle.sm160_receiver.specs.declared.Progress.TheVariants.{Complete}
use Rattle.demand3.specs.Feeding.{Side, side, Exchange, EndsWith, Fed, ByStep}
use Rattle.demand3.specs.Completion.{is_refused}
use Rattle.demand3.specs.OneFile.{StandsIn, EndsOnlyWith, Accepted, StartFirst, EachAccepted, OfOneFile, Reports}
use Rattle.demand3.proofs.Taking.{take_sets, drop_sets, Taken, IsTaken, either_way, taken_not, accepted_taken, reply_complete}
use Rattle.demand3.proofs.Completed.{completing}

-- bytes that stand in a file, one or more, end within it
within : (file : List ℕ) (place n : ℕ) → n ≡ length (take n (drop place file)) → 0 < n → place + n ≤ length file
within file place n e h = omega (arith, length-take n (drop place file), min-le_right n (length (drop place file)), length-drop place file)

module _ (file b : List ℕ) where
  -- from START on: of a file under way the bytes held are the file's, and the buffer behind the file is b's
  abbrev Front : Side → Type 0
  Front σ = σ.state.under_way ≡ true → take σ.state.count σ.buffer ≡ take σ.state.count file

  abbrev Rest : Side → Type 0
  Rest σ = drop (length file) σ.buffer ≡ drop (length file) b

  -- what one frame comes to: the same again, and the whole file where it completes
  record Goes (x : Exchange) (τ : Side) : Type 0 where
    front : Front τ
    rest : Rest τ
    reports : (n : ℕ) → x.answer ≡ Ok (Complete n) → Reports file n b τ.buffer

  -- a frame is taken at σ, where the bytes before its part are the file's
  module _ (σ : Side) (x : Exchange) (τ : Side) (w : IsTaken σ x τ) (stands : StandsIn file x.frame) (ends : EndsOnlyWith file x.frame)
      (before : take (offset_of x.frame) σ.buffer ≡ take (offset_of x.frame) file) (behind : Rest σ) where
    abbrev F : List ℕ
    F = x.frame

    abbrev Stored : List ℕ
    Stored = sets σ.buffer (offset_of F) (part_of F)

    stored_front : take (reached F) Stored ≡ take (reached F) file
    unfolding reached
    stored_front =
        take_sets σ.buffer (offset_of F) (part_of F) w.able.room
        ∙ ap₂ (λ (p q : List ℕ). p ++ q) before stands
        ∙ sym (take-add (offset_of F) (length (part_of F)) file)

    stored_rest : drop (length file) Stored ≡ drop (length file) b
    unfolding reached
    stored_rest =
        drop_sets σ.buffer (offset_of F) (part_of F) w.able.room (length file)
        (within file (offset_of F) (length (part_of F)) (ap length stands) (part_within σ.state.limit F w.able.good).0)
        ∙ behind

    under_way_lem : (end : Bool) → Front (side (state_after end σ.state (reached F)) Stored)
    under_way_lem true u = absurd (false≢true u)
    under_way_lem false u = stored_front

    completed : is_end F ≡ true → Reports file (reached F) b Stored
    completed e =
        let n = ends e in
        let whole : take (length file) Stored ≡ file = rw⁻¹ n (stored_front ∙ ap (λ (k : ℕ). take k file) n ∙ take-length file) in
        record { true_length = n; bytes = sym (take-append-drop (length file) Stored) ∙ ap₂ (λ (p q : List ℕ). p ++ q) whole stored_rest }

    goes : Goes x τ
    goes =
        subst (Goes x) (sym w.lands)
        (record {
          front = under_way_lem (is_end F);
          rest = stored_rest;
          reports = λ n e.
              let c = reply_complete (is_end F) (reached F) n (sym w.answered ∙ e) in
              subst (λ (k : ℕ). Reports file k b Stored) c.1 (completed c.0);
        })

  -- so they are where it is a START, and where the bytes held are the file's
  before_part : (start : Bool) (σ : Side) (f : List ℕ) → is_start f ≡ start → Taken σ f → (start ≡ false → Front σ)
      → take (offset_of f) σ.buffer ≡ take (offset_of f) file
  before_part true σ f e t h = rw (t.at_start e) refl
  before_part false σ f e t h = rw (t.at_count e) (h refl (t.going e))

  -- one frame after START, refused or not
  goes_on : (σ : Side) (x : Exchange) (τ : Side) → ByStep σ x τ → Front σ → Rest σ
      → (Accepted x → StandsIn file x.frame) → (Accepted x → EndsOnlyWith file x.frame) → Goes x τ
  goes_on σ x τ e front rest stands ends =
      ⊎_elim
      (λ w. subst (Goes x) (sym w.same) (record {
        front = front;
        rest = rest;
        reports = λ n c. absurd (false≢true (sym (ap is_refused c) ∙ ap is_refused w.answered));
      }))
      (λ w.
      let ok = taken_not σ x τ w in
      goes σ x τ w (stands ok) (ends ok) (before_part (is_start x.frame) σ x.frame refl w.able (λ _. front)) rest)
      (either_way σ x τ e)

  completes : (σ : Side) (earlier : List Exchange) (f : List ℕ) (n : ℕ) (τ : Side) → Front σ → Rest σ
      → Fed ByStep σ (earlier ++ completing f n) τ → EachAccepted (StandsIn file) (earlier ++ completing f n) → EachAccepted (EndsOnlyWith file) (earlier ++ completing f n)
      → Reports file n b τ.buffer
  unfolding Fed EachAccepted
  completes σ [] f n τ front rest e stand end =
      rw e.2 ((goes_on σ _ e.0 e.1 front rest stand.0 end.0).reports n refl)
  completes σ (x ∷ earlier) f n τ front rest e stand end =
      let g = goes_on σ x e.0 e.1 front rest stand.0 end.0 in
      completes e.0 earlier f n τ g.front g.rest e.2 stand.1 end.1

-- ---- from START on
starts : (file : List ℕ) (σ : Side) (x : Exchange) (τ : Side) → ByStep σ x τ → is_start x.frame ≡ true → Accepted x
    → (Accepted x → StandsIn file x.frame) → (Accepted x → EndsOnlyWith file x.frame) → Goes file σ.buffer x τ
starts file σ x τ e start ok stands ends =
    let w = accepted_taken σ x τ e ok in
    goes file σ.buffer σ x τ w (stands ok) (ends ok)
    (before_part file σ.buffer true σ x.frame start w.able (λ q. absurd (false≢true (sym q)))) refl

from_start : (file : List ℕ) (σ : Side) (earlier : List Exchange) (f : List ℕ) (n : ℕ) (τ : Side)
    → Fed ByStep σ (earlier ++ completing f n) τ → OfOneFile file (earlier ++ completing f n) → Reports file n σ.buffer τ.buffer
unfolding Fed StartFirst EachAccepted
from_start file σ [] f n τ e h = rw e.2 ((starts file σ _ e.0 e.1 h.start.0 h.start.1 h.stand.0 h.end.0).reports n refl)
from_start file σ (x ∷ earlier) f n τ e h =
    let g = starts file σ x e.0 e.1 h.start.0 h.start.1 h.stand.0 h.end.0 in
    completes file σ.buffer e.0 earlier f n τ g.front g.rest e.2 h.stand.1 h.end.1

-- A receiver is at σ, whatever came before, and is fed frames that lead to τ: first an accepted START, and all that are accepted are of one file.
-- Where the last is answered with completion at n, it reports that file, whole.
pub one_file : (file : List ℕ) (σ : Side) (xs : List Exchange) (τ : Side) (n : ℕ)
    → Fed ByStep σ xs τ → OfOneFile file xs → EndsWith (Ok (Complete n)) xs → Reports file n σ.buffer τ.buffer
one_file file σ xs τ n e h w =
    from_start file σ w.0 w.1 n τ (subst (λ (l : List Exchange). Fed ByStep σ l τ) w.2 e) (subst (OfOneFile file) w.2 h)
