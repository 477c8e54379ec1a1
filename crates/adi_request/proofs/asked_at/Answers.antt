-- `adi_request::asked_at` meets its contract.
use mathlib.Core.Path.{refl, sym, ap, ◌∙◌}
use mathlib.Core.List.{[]}
use Prim.Native.Nat.{◌+◌, ◌-◌, ◌*◌, ◌/◌, ◌≤◌, ◌<◌}
use native.Mathlib.Omega.{arith}
use lib.ListN.{length, drop, length-drop}
use borrow.Author.Tests.{ltb-false}
use Rattle.std.specs.Prelude.{Some}
use Rattle.adi.specs.Head.{body_of}
use Rattle.adi_request.specs.Reading.{asked_at}
use Rattle.adi_request.proofs.Chunks.{chunk_of, chunk_asks}
use Rattle.adi_request.proofs.Judging.{nothing_past, at_place_lem}
use Rattle.adi_request.proofs.Places.{asked_at_0}
use Rattle.adi_request.proofs.asked_at.Goals as goal

pub returns-then-place-eq0 : goal.returns-then-place-eq0
returns-then-place-eq0 c = sym (ap (asked_at c.args.pdu.now) c.if-place-eq0.true ∙ asked_at_0 c.args.pdu.now)

pub returns-in_err-group : goal.returns-in_err-group
returns-in_err-group c =
    let s = c.args.pdu.now in
    let place = c.args.place in
    let few : length c.as_chunks.result.0.now ≤ place - 1 = ltb-false _ _ (sym c.in_err-group.ensures.lookup.0) in
    let past : length (body_of s) / 7 < place = omega (arith, ap length c.rest.ensures, c.as_chunks.ensures.front_len, c.if-place-eq0.false) in
    rw c.from_residual.ensures (sym (nothing_past s place past))

pub returns : goal.returns
returns c =
    let s = c.args.pdu.now in
    let place = c.args.place in
    let chunks = c.as_chunks.result.0.now in
    let body = c.rest.result.now in
    let some : 1 ≤ place = omega (arith, c.if-place-eq0.false) in
    let there : place - 1 < length chunks = c.in_ok-group.ensures.lookup.3.0 in
    let h : place - 1 < length body / 7 = omega (arith, c.as_chunks.ensures.front_len) in
    let within : place * 7 + 2 ≤ length s = omega (arith, ap length c.rest.ensures, length-drop 2 s) in
    let chunk = c.in_ok-group.ensures.lookup.3.1 [] ∙ chunk_of chunks body (place - 1) c.as_chunks.ensures.front h in
    ap Some (c.asked_of.ensures ∙ chunk_asks s body _ place c.rest.ensures some chunk)
    ∙ at_place_lem s place (drop (place * 7 - 5) s) some within refl
