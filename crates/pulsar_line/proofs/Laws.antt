-- The promise of the collector: silence hands over exactly the first 255 of the bytes since the last silence, whatever came before.
-- Assumes nothing.
use mathlib.Core.Path.{◌≡◌, refl, sym, ap, ap₂, ◌∙◌}
use mathlib.Core.Bool.{Bool, true, false}
use mathlib.Core.List.{List, [], ◌∷◌, ◌++◌}
use Prim.Native.Nat.{ℕ, ◌≤◌, ◌<◌}
use native.Mathlib.Nat.{min-le_left, zero-add}
use native.Mathlib.Omega.{arith}
use lib.Dec.{ltb}
use lib.ListN.{length, take, drop, set, length-append, length-take}
use lib.Seq.{take_all, take-append-le, length-take-le, take-append_seam}
use borrow.Author.Tests.{le-ltb, lt-ltb, ltb-true, ltb-false}
use Rattle.std.specs.Prelude.{Ok, Err}
use Rattle.wire.specs.Numbers.{over}
use Rattle.wire.specs.Told.{accepted}
use Rattle.wire.specs.declared.refusals.Refusal.TheVariants.{Unfit}
use Rattle.wire.proofs.Writing.{sets_over, sets_append}
use Rattle.pulsar_frame.specs.Reading.{missing}
use Rattle.pulsar_line.specs.Collect.{Pushed, Silenced, fresh, zeros, unfit, pushed, silenced, Event, byte, quiet, after, since, handing, told_pushed, told_handed}
use Rattle.pulsar_line.specs.declared.Collector.{Collector}
use Rattle.pulsar_line.proofs.Answers.{push_unfit, push_added, push_dropped, silence_unfit, silence_fit}

-- the collector that has taken bs since it was fresh
abbrev holding : List ℕ → Collector
holding bs = record { bytes = over zeros (take 255 bs); count = length (take 255 bs) }

held : (bs : List ℕ) → length (take 255 bs) ≤ 255
held bs = rw length-take (min-le_left 255 (length bs))

fit : (bs : List ℕ) → unfit (length (take 255 bs)) ≡ false
fit bs = le-ltb 255 (length (take 255 bs)) (held bs)

-- one byte more than xs, where there is room
one_more : (xs : List ℕ) (b : ℕ) → length xs < 255 → set (over zeros xs) (length xs) b ≡ over zeros (xs ++ (b ∷ []))
one_more xs b h =
    let room : length xs ≤ length zeros = omega arith in
    let more : length (xs ++ (b ∷ [])) ≤ length zeros = simp length-append (omega arith) in
    ap₂ (λ (l : List ℕ) (k : ℕ). set l k b) (sym (sets_over zeros xs room)) (sym (zero-add (length xs)))
    ∙ sets_append zeros 0 xs (b ∷ [])
    ∙ sets_over zeros (xs ++ (b ∷ [])) more

-- the first 255 of one byte more: it is among them, or it is not
pushes : (bs : List ℕ) (b : ℕ) → pushed (holding bs) b ≡ record { answer = Ok tt; state = holding (bs ++ (b ∷ [])) }
pushes bs b = go (ltb (length bs) 255) refl
  where
    xs : List ℕ
    xs = take 255 bs

    go : (t : Bool) → ltb (length bs) 255 ≡ t → pushed (holding bs) b ≡ record { answer = Ok tt; state = holding (bs ++ (b ∷ [])) }
    go true t =
        let less : length bs < 255 = ltb-true (length bs) 255 t in
        let all : take 255 bs ≡ bs = take_all 255 bs (omega arith) in
        let room : length xs < 255 = omega (arith, ap length all) in
        let more : length (bs ++ (b ∷ [])) ≤ 255 = simp length-append (omega arith) in
        let e : xs ++ (b ∷ []) ≡ take 255 (bs ++ (b ∷ [])) = ap (λ (l : List ℕ). l ++ (b ∷ [])) all ∙ sym (take_all 255 (bs ++ (b ∷ [])) more) in
        sym (push_added (holding bs) false (sym (fit bs)) b refl room)
        ∙ ap₂ (λ (l : List ℕ) (n : ℕ). record { answer = Ok tt; state = record { bytes = l; count = n } })
        (one_more xs b room ∙ ap (over zeros) e)
        (sym (length-append xs (b ∷ [])) ∙ ap length e)
    go false t =
        let full : 255 ≤ length bs = ltb-false (length bs) 255 t in
        let here : 255 ≤ length xs = omega (arith, length-take-le 255 bs full) in
        sym (push_dropped (holding bs) false (sym (fit bs)) b refl here)
        ∙ ap (λ (l : List ℕ). record { answer = Ok tt; state = record { bytes = over zeros l; count = length l } })
        (sym (take-append-le 255 bs (b ∷ []) full))

-- the buffer begins with what it holds
front_held : (xs : List ℕ) → take (length xs) (over zeros xs) ≡ xs
unfolding over
front_held xs = take-append_seam xs (drop (length xs) zeros)

silences : (bs : List ℕ) → silenced (holding bs) ≡ handing (take 255 bs)
silences bs =
    let xs = take 255 bs in
    sym (silence_fit (holding bs) false (sym (fit bs)) (missing xs) fresh refl (ap missing (sym (front_held xs))) refl)

holds : (bs : List ℕ) (es : List Event) → after (holding bs) es ≡ holding (since bs es)
unfolding over
holds bs [] = refl
holds bs (byte b ∷ es) = ap (λ (p : Pushed). after p.state es) (pushes bs b) ∙ holds (bs ++ (b ∷ [])) es
holds bs (quiet ∷ es) = ap (λ (h : Silenced). after h.state es) (silences bs) ∙ holds [] es

-- after any bytes and silences, this is what a silence hands over, every byte of the buffer and the state too
pub collected : (es : List Event) → silenced (after fresh es) ≡ handing (take 255 (since [] es))
unfolding over
collected es = ap silenced (holds [] es) ∙ silences (since [] es)

-- in the paper's words: exactly the first 255 of the bytes since the last silence, and how many lack of the frame that they begin
pub handed_over : (es : List Event) → told_handed (silenced (after fresh es)) ≡ accepted (missing (take 255 (since [] es)) ∷ take 255 (since [] es))
handed_over es =
    let xs = take 255 (since [] es) in
    ap told_handed (collected es) ∙ ap (λ (l : List ℕ). accepted (missing xs ∷ l)) (front_held xs)

-- and no byte is refused
pub taken : (es : List Event) (b : ℕ) → told_pushed (pushed (after fresh es) b) ≡ accepted []
unfolding over
taken es b = ap (λ (c : Collector). told_pushed (pushed c b)) (holds [] es) ∙ ap told_pushed (pushes (since [] es) b)

-- a count above 255 gives 20, and the state stays
pub unfit_refused : (c : Collector) (b : ℕ) → 255 < c.count
    → (pushed c b ≡ record { answer = Err Unfit; state = c })
    × (silenced c ≡ record { answer = Err Unfit; state = c })
unfit_refused c b h =
    let e : true ≡ unfit c.count = sym (lt-ltb 255 c.count h) in
    (sym (push_unfit c true e b refl), sym (silence_unfit c true e refl))
