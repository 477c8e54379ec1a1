-- Demand 3 of calls, and that the limit is kept: of each call of `open`, `receive`, `receive_lent` and `receive_plain` is used that it met its contract, and nothing else.
-- Assumes nothing.
use mathlib.Core.Path.{◌≡◌, refl, sym, ap, ap₂, ◌∙◌}
use mathlib.Core.Bool.{false}
use mathlib.Core.List.{List, [], ◌∷◌}
use Prim.Native.Nat.{ℕ, ◌≤◌}
use denote.Ref.{Bor, MutBor}
use Rattle.wire.specs.Refusal.{pick}
use Rattle.sm160_frame.specs.Reading.{LARGEST, bad_largest}
use Rattle.sm160_frame.proofs.Limit.{from_largest}
use Rattle.sm160_receiver.specs.Receiving.{opened, opening, step, Took}
use Rattle.sm160_receiver.specs.declared.Receiver.{Receiver}
use Rattle.sm160_receiver.specs.declared.Progress.TheVariants.{Complete}
use Rattle.std.specs.Prelude.{Ok}
use Rattle.demand3.specs.Feeding.{Side, side, Exchange, exchange, frames_of, EndsWith, Fed, ByStep, Steps}
use Rattle.demand3.specs.Calls.{ByOpen, of_open, ByCall, of_receive, of_receive_lent, of_receive_plain, Calls}
use Rattle.demand3.specs.Arrival.{Item, all, Arrives, Delivered}
use Rattle.demand3.specs.Completion.{accepted_frames, since_start, HoldsFile}
use Rattle.demand3.specs.OneFile.{OfOneFile, Reports}
use Rattle.demand3.proofs.Taking.{keeps_next, opened_as}
use Rattle.demand3.proofs.Delivery.{delivered}
use Rattle.demand3.proofs.Completed.{completed}
use Rattle.demand3.proofs.OneFile.{one_file}

-- ---- a call that met its contract is the receiver's step
by_step : (σ : Side) (x : Exchange) (τ : Side) → ByCall σ x τ → ByStep σ x τ
by_step _ _ _ (of_receive κs a r e met) = met
by_step _ _ _ (of_receive_lent κs a r e met) = met
by_step _ _ _ (of_receive_plain κs a r e met) = met

by_steps : (σ : Side) (xs : List Exchange) (τ : Side) → Fed ByCall σ xs τ → Fed ByStep σ xs τ
unfolding Fed
by_steps σ [] τ e = e
by_steps σ (x ∷ xs) τ e = (e.0, by_step σ x e.0 e.1, by_steps e.0 xs τ e.2)

opens : (session limit : ℕ) (s : Receiver) → ByOpen session limit s → opening session limit ≡ Ok s
opens _ _ _ (of_open κs a s e met) = sym met

pub opening_limit : (session limit : ℕ) (s : Receiver) → ByOpen session limit s → bad_largest limit ≡ false
opening_limit session limit s o = (opened_as session limit s (opens session limit s o)).1

steps : (session limit : ℕ) (b : List ℕ) (xs : List Exchange) (τ : Side) → Calls session limit b xs τ → Steps session limit b xs τ
steps session limit b xs τ c = (c.0, opens session limit c.0 c.1, by_steps (side c.0 b) xs τ c.2)

-- ---- the demand

-- Open a receiver for a session and a limit, lend it the buffer b and feed it any frames: it is at σ. Where a file then arrives among the
-- items, and calls with them lead to τ, it is delivered.
pub delivered_by_calls : (session limit : ℕ) (b : List ℕ) (before : List Exchange) (σ : Side) (file : List ℕ) (is : List Item) (τ : Side)
    → Calls session limit b before σ → Arrives session limit file b is → Fed ByCall σ (all is) τ
    → Delivered Calls session limit file is σ τ
delivered_by_calls session limit b before σ file is τ c a e =
    let d = delivered session limit b before σ file is τ (steps session limit b before σ c) a (by_steps σ (all is) τ e) in
    record {
      as_new = λ b' alone ρ fits new. d.as_new b' alone ρ fits (steps session limit b' alone ρ new);
      counted = d.counted;
      complete = d.complete;
      bytes = d.bytes;
    }

-- And whenever completion is reported, at n, to the last of the frames xs so far: the first n bytes of the buffer are a well-formed datagram, and the joined parts of
-- the frames accepted from the last accepted START on, without gap or repeat.
pub completed_by_calls : (session limit : ℕ) (b : List ℕ) (xs : List Exchange) (τ : Side) (n : ℕ)
    → Calls session limit b xs τ → EndsWith (Ok (Complete n)) xs → HoldsFile session limit n τ.buffer (since_start (accepted_frames xs))
completed_by_calls session limit b xs τ n c w = completed session limit b xs τ n (steps session limit b xs τ c) w

-- ---- one file, cut in two ways

-- A receiver is at σ, whatever came before, and calls with frames lead to τ: first an accepted START, and all that are accepted are of one
-- file. Where the last is answered with completion at n, it reports that file, whole.
pub one_file_by_calls : (file : List ℕ) (σ : Side) (xs : List Exchange) (τ : Side) (n : ℕ)
    → Fed ByCall σ xs τ → OfOneFile file xs → EndsWith (Ok (Complete n)) xs → Reports file n σ.buffer τ.buffer
one_file_by_calls file σ xs τ n e h w = one_file file σ xs τ n (by_steps σ xs τ e) h w

-- ---- the limit is kept

-- through any calls, whatever the state that they begin with: START, END, completion and refusals
pub limit_kept : (σ : Side) (xs : List Exchange) (τ : Side) → Fed ByCall σ xs τ → τ.state.limit ≡ σ.state.limit
unfolding Fed
limit_kept σ [] τ e = ap (λ (ρ : Side). ρ.state.limit) e
limit_kept σ (x ∷ xs) τ e = limit_kept e.0 xs τ e.2 ∙ (keeps_next σ x e.0 (by_step σ x e.0 e.1)).limit

-- so it is the largest part that opening took
pub limit_agreed : (session limit : ℕ) (b : List ℕ) (xs : List Exchange) (τ : Side) → Calls session limit b xs τ → τ.state.limit ≡ limit
limit_agreed session limit b xs τ c =
    limit_kept (side c.0 b) xs τ c.2 ∙ ap (λ (s : Receiver). s.limit) (opened_as session limit c.0 (opens session limit c.0 c.1)).0

-- ---- and there are such calls, with any frames

-- a reference, wherever it points
abbrev ref : {A : Type 0} → A → Bor A
ref value = record { ref_ptr = (0, 0); now = value }

abbrev mut_ref : {A : Type 0} → A → MutBor A
mut_ref value = record { ref_ptr = (0, 0); ghost_name = 0; now = value }

-- for each step there is a call that met its contract
as_call : (σ : Side) (x : Exchange) (τ : Side) → ByStep σ x τ → ByCall σ x τ
as_call σ x τ met =
    of_receive ([], ([], tt))
    (σ.state, (ref x.frame, (mut_ref σ.buffer, tt)))
    (record { answer = x.answer; state = τ.state })
    (σ.state, (ref x.frame, (mut_ref τ.buffer, tt)))
    met

pub as_calls : (σ : Side) (xs : List Exchange) (τ : Side) → Fed ByStep σ xs τ → Fed ByCall σ xs τ
unfolding Fed
as_calls σ [] τ e = e
as_calls σ (x ∷ xs) τ e = (e.0, as_call σ x e.0 e.1, as_calls e.0 xs τ e.2)

call_with : (σ : Side) (f : List ℕ) → (x : Exchange) × (τ : Side) × ByCall σ x τ × (x.frame ≡ f)
unfolding Took
call_with σ f =
    let o = step σ.state f σ.buffer in
    let x = exchange f o.answer in
    let τ = side o.state o.buffer in
    (x, τ, as_call σ x τ refl, refl)

pub fed_with : (σ : Side) (fs : List (List ℕ)) → (xs : List Exchange) × (τ : Side) × Fed ByCall σ xs τ × (frames_of xs ≡ fs)
unfolding Fed
fed_with σ [] = ([], σ, refl, refl)
fed_with σ (f ∷ fs) =
    let one = call_with σ f in
    let more = fed_with one.1 fs in
    (one.0 ∷ more.0, more.1, (one.1, one.2, more.2), ap₂ (λ (g : List ℕ) (gs : List (List ℕ)). g ∷ gs) one.3 more.3)

-- a receiver can be opened, with any limit from 1 to 240
pub from_opening : (session limit : ℕ) (b : List ℕ) (xs : List Exchange) (τ : Side) → 1 ≤ limit → limit ≤ LARGEST
    → Fed ByCall (side (opened session limit) b) xs τ → Calls session limit b xs τ
unfolding opening pick
from_opening session limit b xs τ least most e =
    (opened session limit, of_open tt (session, (limit, tt)) (opened session limit) (session, (limit, tt)) (rw (from_largest limit least most) refl), e)

pub calls_with : (session limit : ℕ) (b : List ℕ) (fs : List (List ℕ)) → 1 ≤ limit → limit ≤ LARGEST
    → (xs : List Exchange) × (τ : Side) × Calls session limit b xs τ × (frames_of xs ≡ fs)
calls_with session limit b fs least most =
    let fed = fed_with (side (opened session limit) b) fs in
    (fed.0, fed.1, from_opening session limit b fed.0 fed.1 least most fed.2, fed.3)
