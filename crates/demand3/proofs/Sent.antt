-- What the sender writes is delivered: demand 3 is not empty.
-- Assumes nothing.
use mathlib.Core.Path.{◌≡◌, sym, subst}
use mathlib.Core.Bool.{false}
use mathlib.Core.List.{List}
use Prim.Native.Nat.{ℕ, ◌≤◌, ◌<◌}
use native.Mathlib.Omega.{arith}
use borrow.Author.Tests.{ne_eqb, le-ltb}
use lib.Dec.{eqb, ltb}
use lib.ListN.{length}
use Rattle.wire.specs.Each.{Bytes}
use Rattle.wire.proofs.Bools.{neither_or}
use Rattle.sm160_frame.specs.Carried.{Carried}
use Rattle.sm160_frame.proofs.Limit.{largest_from, from_largest}
use Rattle.sm160_datagram.specs.Reading.{datagram_fault}
use Rattle.sm160_datagram.proofs.Bytes.{datagram_length}
use Rattle.sm160_sender.specs.Sending.{bad_file}
use Rattle.sm160_sender.specs.Whole.{Call, SentInTurn, sent_frames}
use Rattle.sm160_sender.proofs.Whole.{sent as sends, sent_datagram, sends_whole}
use Rattle.demand3.specs.Feeding.{Side, Exchange, frames_of, Fed}
use Rattle.demand3.specs.Calls.{ByCall, Calls}
use Rattle.demand3.specs.Arrival.{Delivered, file_frames}
use Rattle.demand3.proofs.Delivery.{all_file, own_file}
use Rattle.demand3.proofs.ByCalls.{opening_limit, delivered_by_calls, fed_with}

-- frames that carry a datagram in parts up to the limit deliver it, whatever came before them
pub carried : (session limit : ℕ) (b : List ℕ) (before : List Exchange) (σ : Side) (file : List ℕ) (xs : List Exchange) (τ : Side)
    → datagram_fault file ≡ 0 → length file ≤ length b → Carried session limit file (frames_of xs)
    → Calls session limit b before σ → Fed ByCall σ xs τ → Delivered Calls session limit file (file_frames xs) σ τ
carried session limit b before σ file xs τ datagram fits c s e =
    delivered_by_calls session limit b before σ file (file_frames xs) τ s
    (record { datagram = datagram; fits = fits; carried = subst (λ (l : List Exchange). Carried session limit file (frames_of l)) (sym (own_file xs)) c })
    (subst (λ (l : List Exchange). Fed ByCall σ l τ) (sym (all_file xs)) e)

-- What calls of the sender write, from place 0 on by the answered places and cut by any largest part that is not above the receiver's limit, is
-- delivered, whatever came before it: for the sender sends datagrams alone.
pub sent : (session limit : ℕ) (b : List ℕ) (before : List Exchange) (σ : Side) (file : List ℕ) (largest : ℕ) (cs : List Call) (xs : List Exchange) (τ : Side)
    → session < 65536 → Bytes file → 1 ≤ length file → length file ≤ length b → largest ≤ limit
    → SentInTurn file session largest 0 cs → frames_of xs ≡ sent_frames cs
    → Calls session limit b before σ → Fed ByCall σ xs τ → Delivered Calls session limit file (file_frames xs) σ τ
sent session limit b before σ file largest cs xs τ hs bytes some fits agreed h same s e =
    carried session limit b before σ file xs τ (sent_datagram file session largest cs some h) fits (subst (Carried session limit file) (sym same) (sends file session largest bytes hs limit agreed cs h)) s e

-- And there are such calls: of the sender, with one output of 252 bytes or more lent to each, and of the receiver with what they write.
pub sent_whole : (session limit : ℕ) (b : List ℕ) (before : List Exchange) (σ : Side) (file : List ℕ) (largest : ℕ) (out : List ℕ)
    → session < 65536 → Bytes file → datagram_fault file ≡ 0 → length file ≤ length b → length file ≤ 4294967295
    → 1 ≤ largest → largest ≤ limit → 252 ≤ length out → Calls session limit b before σ
    → (cs : List Call) × (xs : List Exchange) × (τ : Side)
    × SentInTurn file session largest 0 cs × (frames_of xs ≡ sent_frames cs) × Fed ByCall σ xs τ × Delivered Calls session limit file (file_frames xs) σ τ
sent_whole session limit b before σ file largest out hs bytes datagram fits small least agreed room s =
    let long = datagram_length file datagram in
    let good-file : bad_file file ≡ false =
    neither_or (eqb (length file) 0) (ltb 4294967295 (length file)) (ne_eqb (length file) 0 (λ e. omega arith)) (le-ltb 4294967295 (length file) small) in
    let most = (largest_from limit (opening_limit session limit s.0 s.1)).1 in
    let calls = sends_whole file session largest out good-file (from_largest largest least (omega (arith, most))) datagram room in
    let fed = fed_with σ (sent_frames calls.0) in
    let d = sent session limit b before σ file largest calls.0 fed.0 fed.1 hs bytes (omega arith) fits agreed calls.1 fed.3 s fed.2 in
    (calls.0, fed.0, fed.1, calls.1, fed.3, fed.2, d)
