-- The round trips: what is written reads back as the same fields, with anything after it; and what is accepted, written again, gives
-- the same bytes up to its own length.
-- Assumes nothing.
use mathlib.Core.Path.{◌≡◌, refl, sym, ap, ap₂, ◌∙◌, subst}
use mathlib.Core.Bool.{false}
use mathlib.Core.List.{List, ◌++◌}
use mathlib.Core.Logic.{◌⊎◌}
use Prim.Native.Nat.{ℕ, ◌+◌, ◌≤◌}
use native.Mathlib.Omega.{arith}
use lib.Dec.{eqb, ltb}
use lib.ListN.{length, take, drop, take-append-drop}
use borrow.Author.Tests.{ne_eqb, le-ltb, ltb-false, eqb-false}
use Rattle.std.specs.Prelude.{Result, Ok}
use Rattle.wire.specs.Each.{Bytes}
use Rattle.wire.specs.Numbers.{over}
use Rattle.wire.specs.Refusal.{first, NoneHolds}
use Rattle.wire.specs.Writes.{Written, Writes}
use Rattle.wire.proofs.Bools.{or_neither, neither_or}
use Rattle.wire.proofs.Rules.{first_none, none_first}
use Rattle.wire.proofs.Writes.{wrote, wrote_front, wrote_all}
use Rattle.pulsar_frame.specs.Layout.{frame_bytes, len_of, address_of, function_of, payload_of, id_of}
use Rattle.pulsar_frame.specs.Reading.{bad_own, bad_asked, no_function, frame_of, read_at_meter, read_at_master}
use Rattle.pulsar_frame.specs.Writing.{request_rules, reply_rules, room_rules, WritesRequest, WritesReply}
use Rattle.pulsar_frame.specs.Promise.{Typed}
use Rattle.pulsar_frame.specs.declared.Frame.{Frame}
use Rattle.pulsar_frame.specs.declared.Fault.{Fault}
use Rattle.pulsar_frame.proofs.Readers.{Accepted, at_meter_lem, at_master, meter_reads, master_reads}
use Rattle.pulsar_frame.proofs.Stores.{length_frame}
use Rattle.pulsar_frame.proofs.Parts.{written_payload, read_frame_lem, read_address, read_payload, read_small}

-- ---- what is written reads back

-- where a frame was written and s begins with it, what a reader makes of the frame, with what is left of s after it, it makes of s
carried : (read : List ℕ → Result Frame Fault) (k a f id : ℕ) (p out out' s : List ℕ) (n : ℕ)
    → Writes k (frame_bytes a f id p) out (Ok n) out'
    → take n s ≡ take n out'
    → read (frame_bytes a f id p ++ drop n s) ≡ Ok (record { address = a; function = f; id = id; len = length p + 10 })
    → (read s ≡ Ok (record { address = a; function = f; id = id; len = n })) × (payload_of s n ≡ p)
carried read k a f id p out out' s n w e reads =
    let bs = frame_bytes a f id p in
    let len : length p + 10 ≡ n = sym ((wrote k bs out (Ok n) out' n w refl).1 ∙ length_frame a f id p) in
    let s-is : bs ++ drop n s ≡ s =
    ap (λ (l : List ℕ). l ++ drop n s) (sym (e ∙ (wrote_front k bs out (Ok n) out' n w refl).1)) ∙ take-append-drop n s in (
      ap read (sym s-is) ∙ reads ∙ ap (λ (j : ℕ). Ok (record { address = a; function = f; id = id; len = j })) len,
      ap₂ payload_of (sym s-is) (sym len) ∙ written_payload a f id p (drop n s),
    )

-- where `write_request` wrote n bytes, and s begins with them, the meter that is asked, and for address 0 every meter, reads the same
-- fields and payload
pub request_reads_back : (own address function id : ℕ) (payload out out' s : List ℕ) (n : ℕ)
    → Typed function id payload
    → WritesRequest address function id payload out (Ok n) out'
    → take n s ≡ take n out'
    → bad_own own ≡ false
    → (address ≡ own) ⊎ (address ≡ 0)
    → (read_at_meter own s ≡ Ok (record { address = address; function = function; id = id; len = n })) × (payload_of s n ≡ payload)
request_reads_back own a f id p out out' s n typed w e good mine =
    let h = none_first (request_rules a f p out) tt (wrote _ (frame_bytes a f id p) out (Ok n) out' n w refl).0 in
    let asked = or_neither (ltb 99999999 a) (eqb f 0) h.0 in
    carried (read_at_meter own) _ a f id p out out' s n w e
    (meter_reads a f id p (drop n s) typed (ltb-false _ _ h.1.0) (ltb-false _ _ asked.0) own good mine (eqb-false f 0 asked.1))

-- where `write_reply` wrote n bytes, and s begins with them, the master that asked own, or address 0, for this function, or for another
-- and the reply is an error, reads the same fields and payload
pub reply_reads_back : (address asked own function id : ℕ) (payload out out' s : List ℕ) (n : ℕ)
    → Typed function id payload
    → WritesReply own function id payload out (Ok n) out'
    → take n s ≡ take n out'
    → bad_asked address asked ≡ false
    → (own ≡ address) ⊎ (address ≡ 0)
    → (function ≡ asked) ⊎ (function ≡ 0)
    → (read_at_master address asked id s ≡ Ok (record { address = own; function = function; id = id; len = n })) × (payload_of s n ≡ payload)
reply_reads_back address asked a f id p out out' s n typed w e good mine answers =
    let h = none_first (reply_rules a p out) tt (wrote _ (frame_bytes a f id p) out (Ok n) out' n w refl).0 in
    let own = or_neither (eqb a 0) (ltb 99999999 a) h.0 in
    carried (read_at_master address asked id) _ a f id p out out' s n w e
    (master_reads a f id p (drop n s) typed (ltb-false _ _ h.1.0) (ltb-false _ _ own.1) address asked good (eqb-false a 0 own.0) mine answers)

-- ---- what is accepted, written again
module _ (s : List ℕ) (fr : Frame) (bytes : Bytes s) (ok : Accepted s fr) where
  least : 10 ≤ len_of s
  least = ltb-false (len_of s) 10 ok.counted

  most : len_of s ≤ length s
  most = ltb-false (length s) (len_of s) ok.whole

  small_address : address_of s ≤ 99999999
  small_address = read_address s bytes ok.decimal least most

  -- 17 and 16 do not hold where the output has room
  has_room : (out : List ℕ) → fr.len ≤ length out → NoneHolds (room_rules (payload_of s (len_of s)) out)
  has_room out room =
      let len : len_of s ≡ fr.len = ap (λ (x : Frame). x.len) ok.frame in
      let n = read_payload s bytes ok.decimal least most in (
        le-ltb 245 (length (payload_of s (len_of s))) (read_small s bytes ok.decimal least most),
        (le-ltb (length out) (length (payload_of s (len_of s)) + 10) (omega arith), tt),
      )

  -- where the frame that was found has no fault, n for its number, the output begins with the bytes received
  again : (n : Frame → ℕ) → n (frame_of s) ≡ 0 → (out out' : List ℕ) (r : Written)
      → Writes (n fr) (frame_bytes fr.address fr.function fr.id (payload_of s fr.len)) out r out'
      → (r ≡ Ok fr.len) × (out' ≡ over out (take fr.len s))
  again n z out out' r =
      subst
      (λ (x : Frame). Writes (n x) (frame_bytes x.address x.function x.id (payload_of s x.len)) out r out' → (r ≡ Ok x.len) × (out' ≡ over out (take x.len s)))
      ok.frame
      (λ w.
      let o = wrote_all _ _ out r out' w z in
      let long = length_frame (address_of s) (function_of s) (id_of s) (payload_of s (len_of s)) ∙ read_payload s bytes ok.decimal least most in
      (o.0 ∙ ap Ok long, o.1 ∙ ap (over out) (read_frame_lem s bytes ok.decimal least most ok.checked)))

-- what the meter accepts, `write_request` writes again, where there is room: the bytes received up to LEN, over the front of the output
pub request_writes_again : (own : ℕ) (s out out' : List ℕ) (fr : Frame) (r : Written)
    → Bytes s
    → read_at_meter own s ≡ Ok fr
    → fr.len ≤ length out
    → WritesRequest fr.address fr.function fr.id (payload_of s fr.len) out r out'
    → (r ≡ Ok fr.len) × (out' ≡ over out (take fr.len s))
request_writes_again own s out out' fr r bytes e room =
    let ok = at_meter_lem own s fr e in
    let asked : bad_asked (address_of s) (function_of s) ≡ false =
    neither_or (ltb 99999999 (address_of s)) (no_function s) (le-ltb 99999999 (address_of s) (small_address s fr bytes ok.0)) ok.1 in
    let none = first_none (request_rules (address_of s) (function_of s) (payload_of s (len_of s)) out) (asked, has_room s fr bytes ok.0 out room) in
    again s fr bytes ok.0 (λ x. first (request_rules x.address x.function (payload_of s x.len) out)) none out out' r

-- what the master accepts, `write_reply` writes again
pub reply_writes_again : (address function id : ℕ) (s out out' : List ℕ) (fr : Frame) (r : Written)
    → Bytes s
    → read_at_master address function id s ≡ Ok fr
    → fr.len ≤ length out
    → WritesReply fr.address fr.function fr.id (payload_of s fr.len) out r out'
    → (r ≡ Ok fr.len) × (out' ≡ over out (take fr.len s))
reply_writes_again address function id s out out' fr r bytes e room =
    let ok = at_master address function id s fr e in
    let own : bad_own (address_of s) ≡ false =
    neither_or (eqb (address_of s) 0) (ltb 99999999 (address_of s)) (ne_eqb (address_of s) 0 ok.1)
    (le-ltb 99999999 (address_of s) (small_address s fr bytes ok.0)) in
    let none = first_none (reply_rules (address_of s) (payload_of s (len_of s)) out) (own, has_room s fr bytes ok.0 out room) in
    again s fr bytes ok.0 (λ x. first (reply_rules x.address (payload_of s x.len) out)) none out out' r
