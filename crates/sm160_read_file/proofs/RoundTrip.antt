-- The round trips of a read-file request and of a reply.
-- Assumes nothing.
use mathlib.Core.Path.{◌≡◌, refl, sym, ap, ap₂, ◌∙◌, subst}
use mathlib.Core.Bool.{Bool, false, not}
use mathlib.Core.List.{List, [], ◌∷◌}
use Prim.Native.Nat.{ℕ, ◌^◌, ◌<◌, ◌≤◌}
use native.Mathlib.Omega.{arith}
use lib.Dec.{eqb, lit<}
use lib.ListN.{length, take}
use borrow.Author.Tests.{ltb-false, le-ltb, eq-eqb, eqb-true, not-false}
use Rattle.wire.specs.Each.{Bytes}
use Rattle.wire.specs.Numbers.{over}
use Rattle.wire.specs.Refusal.{first}
use Rattle.std.specs.Prelude.{Ok}
use Rattle.wire.specs.Writes.{Written}
use Rattle.wire.proofs.Answer.{judged_none, accepted_as}
use Rattle.wire.proofs.Bools.{or_neither, neither_or}
use Rattle.wire.proofs.Rules.{first_none, none_first}
use Rattle.wire.proofs.Writes.{wrote_front, wrote_all}
use Rattle.sm160_datagram.specs.Layout.{datagram_bytes, type_of, options_of, data_of}
use Rattle.sm160_datagram.proofs.Bytes.{made_type, made_options, made_data, made_good, options_bytes, read_bytes}
use Rattle.sm160_read_file.specs.Layout.{REQUEST, REPLY, name_at, message_at, request_options, reply_options, offset_of, size_of, status_of, text_of}
use Rattle.sm160_read_file.specs.Reading.{bad_text, bad_request, bad_reply, file_rules, request_rules, reply_rules, request_of, read_request, read_reply}
use Rattle.sm160_read_file.specs.Writing.{long_text, request_bytes, reply_bytes, write_rules, WritesRequest, WritesReply}
use Rattle.sm160_read_file.specs.declared.Request.{Request}
use Rattle.sm160_read_file.proofs.Order.{request, file_none, none_file}
use Rattle.sm160_read_file.proofs.Texts.{length_request, length_reply, made_offset, made_size, made_name, good_name, request_bytes_lem, made_status, made_message, good_message, reply_bytes_lem, request_again, reply_again, text_small}

-- a datagram of a type that is made of options and data, and of which nothing is bad, is read
made_file : (type : ℕ) (o c : List ℕ) (bad : Bool) → type < 256 → Bytes o → Bytes c → length o < 4294967296 → length c < 256 ^ 8 → bad ≡ false
    → first (file_rules type bad (datagram_bytes type o c)) ≡ 0
made_file type o c bad ht ho hc small large fine =
    none_file type bad (datagram_bytes type o c) (made_good type o c small ht ho hc large) (ap not (eq-eqb _ type (made_type type o c))) fine

short : (text : List ℕ) → long_text text ≡ false → length text < 65536
short text e = let k : length text ≤ 65535 = ltb-false 65535 (length text) e in omega arith

-- What is written reads back: where the writer answers a length, the bytes of that length are read as the same fields, and the text is the text.
pub request_reads_back : (offset size : ℕ) (name out : List ℕ) (r : Written) (out' : List ℕ) (n : ℕ)
    → offset < 256 ^ 8 → size < 256 ^ 8 → Bytes name → WritesRequest offset size name out r out' → r ≡ Ok n
    → (read_request (take n out') ≡ Ok (record { offset = offset; size = size })) × (text_of name_at (options_of (take n out')) ≡ name)
unfolding read_request
request_reads_back offset size name out r out' n ho hs hn w e =
    let o = request_options offset size name in
    let D = request_bytes offset size name in
    let done = wrote_front (first (write_rules name (request_bytes offset size name) out)) D out r out' n w e in
    let small = short name (none_first (write_rules name (request_bytes offset size name) out) tt done.0).0 in
    let few : length o < 4294967296 = omega (arith, length_request offset size name) in
    let options : options_of D ≡ o = made_options REQUEST o [] few in
    let fine : bad_request D ≡ false =
    neither_or (bad_text name_at (options_of D)) (not (eqb (length (data_of D)) 0)) (ap (bad_text name_at) options ∙ good_name offset size name small)
    (ap not (eq-eqb (length (data_of D)) 0 (ap length (made_data REQUEST o [] few)))) in
    let none = made_file REQUEST o [] (bad_request D) (lit< tt) (request_bytes_lem offset size name hn) tt few (lit< tt) fine in
    let fields : request_of D ≡ record { offset = offset; size = size } =
    ap₂ (λ (x y : ℕ). request x y) (ap offset_of options ∙ made_offset offset size name ho) (ap size_of options ∙ made_size offset size name hs) in (
      ap read_request done.1 ∙ judged_none (request_of D) (first (request_rules D)) none ∙ ap Ok fields,
      ap (λ (d : List ℕ). text_of name_at (options_of d)) done.1 ∙ ap (text_of name_at) options ∙ made_name offset size name small,
    )

pub reply_reads_back : (status : ℕ) (message content out : List ℕ) (r : Written) (out' : List ℕ) (n : ℕ)
    → status < 256 ^ 4 → Bytes message → Bytes content → length content < 256 ^ 8 → WritesReply status message content out r out' → r ≡ Ok n
    → (read_reply (take n out') ≡ Ok status) × (text_of message_at (options_of (take n out')) ≡ message) × (data_of (take n out') ≡ content)
unfolding read_reply
reply_reads_back status message content out r out' n hs hm hc large w e =
    let o = reply_options status message in
    let D = reply_bytes status message content in
    let done = wrote_front (first (write_rules message (reply_bytes status message content) out)) D out r out' n w e in
    let small = short message (none_first (write_rules message (reply_bytes status message content) out) tt done.0).0 in
    let few : length o < 4294967296 = omega (arith, length_reply status message) in
    let options : options_of D ≡ o = made_options REPLY o content few in
    let fine : bad_reply D ≡ false = ap (bad_text message_at) options ∙ good_message status message small in
    let none = made_file REPLY o content (bad_reply D) (lit< tt) (reply_bytes_lem status message hm) hc few large fine in (
      ap read_reply done.1 ∙ judged_none (status_of (options_of D)) (first (reply_rules D)) none ∙ ap Ok (ap status_of options ∙ made_status status message hs),
      ap (λ (d : List ℕ). text_of message_at (options_of d)) done.1 ∙ ap (text_of message_at) options ∙ made_message status message small,
      ap data_of done.1 ∙ made_data REPLY o content few,
    )

-- what reading has found where it answers fields
request_accepted : (d : List ℕ) (offset size : ℕ) → read_request d ≡ Ok (record { offset = offset; size = size })
    → (first (request_rules d) ≡ 0) × (offset_of (options_of d) ≡ offset) × (size_of (options_of d) ≡ size)
unfolding read_request
request_accepted d offset size e =
    let ok = accepted_as (request_of d) _ (record { offset = offset; size = size }) e in
    (ok.0, ap (λ (r : Request). r.offset) ok.1, ap (λ (r : Request). r.size) ok.1)

reply_accepted : (d : List ℕ) (status : ℕ) → read_reply d ≡ Ok status → (first (reply_rules d) ≡ 0) × (status_of (options_of d) ≡ status)
unfolding read_reply
reply_accepted d status e = accepted_as (status_of (options_of d)) _ status e

-- no data, where none is of length 0
empty : (l : List ℕ) → length l ≡ 0 → l ≡ []
empty [] e = refl
empty (x ∷ xs) e = absurd (omega arith)

-- What is accepted, written again by its fields where there is room, gives the same bytes.
pub request_writes_again : (d : List ℕ) (offset size : ℕ) (out : List ℕ) (r : Written) (out' : List ℕ) → Bytes d → read_request d ≡ Ok (record { offset = offset; size = size }) → length d ≤ length out
    → WritesRequest offset size (text_of name_at (options_of d)) out r out' → (r ≡ Ok (length d)) × (out' ≡ over out d)
request_writes_again d offset size out r out' bytes e room w =
    let ok = request_accepted d offset size e in
    let found = file_none REQUEST (bad_request d) d ok.0 in
    let o = options_of d in
    let name = text_of name_at o in
    let ob = options_bytes d bytes in
    let parts = or_neither (bad_text name_at o) (not (eqb (length (data_of d)) 0)) found.2 in
    let nothing : data_of d ≡ [] = empty (data_of d) (eqb-true (length (data_of d)) 0 (not-false (eqb (length (data_of d)) 0) parts.1)) in
    let options : request_options offset size name ≡ o =
    ap₂ (λ (x y : ℕ). request_options x y name) (sym ok.1) (sym ok.2) ∙ request_again o ob parts.0 in
    let same : request_bytes offset size name ≡ d =
    ap₂ (λ (x : ℕ) (y : List ℕ). datagram_bytes x y []) (sym found.1) options ∙ ap (datagram_bytes (type_of d) o) (sym nothing) ∙ read_bytes d found.0 bytes in
    let long : length (request_bytes offset size name) ≡ length d = ap length same in
    let none = first_none (write_rules name (request_bytes offset size name) out) (le-ltb 65535 (length name) (text_small o name_at ob parts.0), (le-ltb (length out) (length (request_bytes offset size name)) (omega arith), tt)) in
    subst (λ (l : List ℕ). (r ≡ Ok (length l)) × (out' ≡ over out l)) same (wrote_all (first (write_rules name (request_bytes offset size name) out)) (request_bytes offset size name) out r out' w none)

pub reply_writes_again : (d : List ℕ) (status : ℕ) (out : List ℕ) (r : Written) (out' : List ℕ) → Bytes d → read_reply d ≡ Ok status → length d ≤ length out
    → WritesReply status (text_of message_at (options_of d)) (data_of d) out r out' → (r ≡ Ok (length d)) × (out' ≡ over out d)
reply_writes_again d status out r out' bytes e room w =
    let ok = reply_accepted d status e in
    let found = file_none REPLY (bad_reply d) d ok.0 in
    let o = options_of d in
    let message = text_of message_at o in
    let content = data_of d in
    let ob = options_bytes d bytes in
    let options : reply_options status message ≡ o = ap (λ (x : ℕ). reply_options x message) (sym ok.1) ∙ reply_again o ob found.2 in
    let same : reply_bytes status message content ≡ d =
    ap₂ (λ (x : ℕ) (y : List ℕ). datagram_bytes x y content) (sym found.1) options ∙ read_bytes d found.0 bytes in
    let long : length (reply_bytes status message content) ≡ length d = ap length same in
    let none = first_none (write_rules message (reply_bytes status message content) out) (le-ltb 65535 (length message) (text_small o message_at ob found.2), (le-ltb (length out) (length (reply_bytes status message content)) (omega arith), tt)) in
    subst (λ (l : List ℕ). (r ≡ Ok (length l)) × (out' ≡ over out l)) same (wrote_all (first (write_rules message (reply_bytes status message content) out)) (reply_bytes status message content) out r out' w none)
