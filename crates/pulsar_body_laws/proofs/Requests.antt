-- The laws of requests. What a writer left reads back as the same request and values; what was accepted is written again as the same
-- bytes, under the same function: both for every kind, and once over the width. And the order of refusals, of the number that is told.
-- Assumes nothing.
use mathlib.Core.Path.{◌≡◌, refl, sym, ap, ap₂, ◌∙◌, subst}
use mathlib.Core.Bool.{false}
use mathlib.Core.List.{List, [], ◌++◌, append_assoc}
use Prim.Native.Nat.{ℕ, ◌^◌, ◌≤◌, ◌<◌}
use native.Mathlib.Omega.{arith}
use lib.Dec.{T, eqb, ltb}
use lib.ListN.{length, take, drop, length-append}
use borrow.Author.Tests.{eqb-false, ltb-false}
use Rattle.wire.specs.Each.{Bytes}
use Rattle.wire.specs.Numbers.{le, of_le, field, over}
use Rattle.wire.specs.Refusal.{first, NoneHolds, named, FirstInOrder}
use Rattle.std.specs.Prelude.{Option, None, Some, Result, Ok}
use Rattle.wire.specs.declared.refusals.Refusal.{Refusal}
use Rattle.wire.specs.Writes.{Written, Writes, told_written}
use Rattle.wire.proofs.Bools.{or_neither}
use Rattle.wire.proofs.Fields.{field_at, field_take, field_append, number_at, number_again}
use Rattle.wire.proofs.Numbers.{length_le}
use Rattle.wire.proofs.Rules.{first_none, none_first, none_append, none_both, named_numbered}
use Rattle.wire.proofs.Answer.{judged_none}
use Rattle.wire.proofs.Writes.{written_first}
use Rattle.archive.specs.Archive.{type_number, type_from}
use Rattle.archive.specs.declared.ArchiveKind.{ArchiveKind}
use Rattle.archive.specs.declared.ArchiveKind.TheVariants as A
use Rattle.archive.proofs.Laws.{type_back, type_again}
use Rattle.date.specs.Date.{date_bytes, date_of}
use Rattle.date.specs.declared.DateTime.{DateTime}
use Rattle.date.proofs.Laws.{date_writes_again}
use Rattle.pulsar_body.specs.Fields.{mask_of, date_in, no_channel, not_one, not_date}
use Rattle.pulsar_body.specs.Body.{bad_values, body_rules, reading_answer}
use Rattle.pulsar_body.specs.declared.Values.TheVariants.{Channels}
use Rattle.pulsar_body.proofs.RoundTrip.{numbered_writing, body_back, head_within, body_again, reading_accepts, reading_first, number_kept}
use Rattle.pulsar_request.specs.Layout.{function_from, function_of, function_number, head_bytes, archive_bytes, request_bytes, head_length, values_after, form_of, values_mask, type_of, first_of, last_of, index_of, request_of, values_of}
use Rattle.pulsar_request.specs.Reading.{bad_type, field_rules, request_rules, read_request, told_request}
use Rattle.pulsar_request.specs.Writing.{field_faults, writing_rules}
use Rattle.pulsar_request.specs.declared.ArchiveRequest.{ArchiveRequest}
use Rattle.pulsar_request.specs.declared.Request.{Request}
use Rattle.pulsar_request.specs.declared.Request.TheVariants as Q
use Rattle.pulsar_request.specs.declared.Function.{Function}
use Rattle.pulsar_request.specs.declared.Function.TheVariants as F
use Rattle.pulsar_request.specs.Heads.{length_head, named_faults}
use Rattle.pulsar_body_laws.specs.Sized.{SizedRequest}

-- ---- what is written reads back

good_type : (k : ArchiveKind) → bad_type (type_number k) ≡ false
good_type A.Hourly = refl
good_type A.Daily = refl
good_type A.Monthly = refl
good_type A.HalfHourly = refl

-- the fields of a request's bytes
record Back (q : Request) (s : List ℕ) : Type 0 where
  fields : request_of (function_of q) s ≡ q
  rules : NoneHolds (field_faults q) → NoneHolds (field_rules (function_of q) s)
  count : (width : ℕ) (values : List ℕ) → bad_values (values_after (function_of q)) width (mask_of s) values ≡ bad_values (values_after (function_of q)) width (values_mask q) values

mask_back : (m : ℕ) (vs : List ℕ) → m < 256 ^ 4 → mask_of (le 4 m ++ vs) ≡ m
mask_back m vs h = number_at [] vs 0 4 m refl h

index_back : (i : ℕ) (vs : List ℕ) → i < 256 ^ 2 → index_of (le 2 i ++ vs) ≡ i
index_back i vs h = number_at [] vs 0 2 i refl h

archive_back : (a : ArchiveRequest) (vs : List ℕ) → a.mask < 256 ^ 4 → Back (Q.ReadArchive a) (archive_bytes a ++ vs)
archive_back a vs h =
    let m = le 4 a.mask in
    let k = le 2 (type_number a.kind) in
    let f = date_bytes a.first in
    let l = date_bytes a.last in
    let s = archive_bytes a ++ vs in
    let from-mask : s ≡ m ++ ((k ++ (f ++ l)) ++ vs) = simp append_assoc in
    let from-type : s ≡ m ++ (k ++ ((f ++ l) ++ vs)) = simp append_assoc in
    let from_first : s ≡ (m ++ k) ++ (f ++ (l ++ vs)) = simp append_assoc in
    let from_last : s ≡ (m ++ k ++ f) ++ (l ++ vs) = simp append_assoc in
    let six : length (m ++ k) ≡ 6 = simp (length-append, length_le) in
    let twelve : length (m ++ k ++ f) ≡ 12 = simp (length-append, length_le) in
    let em : mask_of s ≡ a.mask = ap mask_of from-mask ∙ mask_back a.mask ((k ++ (f ++ l)) ++ vs) h in
    let et : type_of s ≡ type_number a.kind = ap type_of from-type ∙ number_at m ((f ++ l) ++ vs) 4 2 (type_number a.kind) (length_le 4 a.mask) (type_fits a.kind) in
    let ef : first_of s ≡ a.first = ap first_of from_first ∙ ap date_of (field_at (m ++ k) f (l ++ vs) 6 6 six refl) in
    let el : last_of s ≡ a.last = ap last_of from_last ∙ ap date_of (field_at (m ++ k ++ f) l vs 12 6 twelve refl) in
    record {
      fields = ap Q.ReadArchive (made em (ap type_from et ∙ type_back a.kind) ef el);
      rules = λ n. (ap not_one em ∙ n.0, (ap bad_type et ∙ good_type a.kind, (ap not_date ef ∙ n.1.0, (ap not_date el ∙ n.1.1.0, tt))));
      count = λ width values. refl;
    }
  where
    type_fits : (k : ArchiveKind) → type_number k < 256 ^ 2
    type_fits A.Hourly = omega arith
    type_fits A.Daily = omega arith
    type_fits A.Monthly = omega arith
    type_fits A.HalfHourly = omega arith

    made : {m m' : ℕ} {k k' : ArchiveKind} {f f' l l' : DateTime} → m ≡ m' → k ≡ k' → f ≡ f' → l ≡ l'
        → ◌≡◌ {A = ArchiveRequest} (record { mask = m; kind = k; first = f; last = l }) (record { mask = m'; kind = k'; first = f'; last = l' })
    made em ek ef el = rw (em, ek, ef, el) refl

back : (q : Request) (vs : List ℕ) → SizedRequest q → Back q (request_bytes q vs)
back (Q.ReadChannels m) vs h =
    let e = mask_back m vs h in
    record { fields = ap Q.ReadChannels e; rules = λ n. (ap no_channel e ∙ n.0, tt); count = λ width values. refl }
back (Q.WriteChannels m) vs h =
    let e = mask_back m vs h in
    record { fields = ap Q.WriteChannels e; rules = λ n. (ap no_channel e ∙ n.0, tt); count = λ width values. ap (λ (k : ℕ). bad_values Channels width k values) e }
back Q.ReadClock vs h = record { fields = refl; rules = λ n. tt; count = λ width values. refl }
back (Q.SetClock d) vs h =
    let e : date_in (date_bytes d ++ vs) ≡ d = ap date_of (field_at [] (date_bytes d) vs 0 6 refl refl) in
    record { fields = ap Q.SetClock e; rules = λ n. (ap not_date e ∙ n.0, tt); count = λ width values. refl }
back (Q.ReadArchive a) vs h = archive_back a vs h
back (Q.ReadParameter i) vs h = record { fields = ap Q.ReadParameter (index_back i vs h); rules = λ n. tt; count = λ width values. refl }
back (Q.WriteParameter i) vs h = record { fields = ap Q.WriteParameter (index_back i vs h); rules = λ n. tt; count = λ width values. refl }

known_back : (q : Request) → function_from (function_number (function_of q)) ≡ Some (function_of q)
known_back (Q.ReadChannels m) = refl
known_back (Q.WriteChannels m) = refl
known_back Q.ReadClock = refl
known_back (Q.SetClock d) = refl
known_back (Q.ReadArchive a) = refl
known_back (Q.ReadParameter i) = refl
known_back (Q.WriteParameter i) = refl

pub request_reads_back : (q : Request) (width : ℕ) (vs out out' : List ℕ) (n : ℕ) → SizedRequest q
    → Writes (first (writing_rules q width vs (length out))) (request_bytes q vs) out (Ok n) out'
    → (read_request (function_number (function_of q)) width (take n out') ≡ Ok q) × (values_of q (take n out') ≡ vs)
unfolding read_request
request_reads_back q width vs out out' n sized w =
    let f = function_of q in
    let s = request_bytes q vs in
    let b = back q vs sized in
    let known = known_back q in
    let o = body_back (form_of f) width (values_mask q) (mask_of s) (head_bytes q) vs (field_faults q) out out' n (b.count width vs) (length_head q) (named_numbered (field_faults q) (named_faults q)) w in
    let accepts = first_none (request_rules (Some f) width s) (none_both (body_rules (Some (form_of f)) width (mask_of s) s) (field_rules f s) o.2 (b.rules o.3)) in
    let reads : read_request (function_number f) width s ≡ Ok q =
    ap (λ (g : Option Function). reading_answer form_of (λ (f : Function). field_rules f s) (λ (f : Function). request_of f s) g width (mask_of s) s) known
    ∙ judged_none (request_of f s) (first (request_rules (Some f) width s)) accepts
    ∙ ap Ok b.fields in
    subst (λ (x : List ℕ). (read_request (function_number f) width x ≡ Ok q) × (values_of q x ≡ vs)) (sym o.0) (reads, o.1)

-- ---- what is accepted is written again

kind_again : (t : ℕ) → bad_type t ≡ false → type_number (type_from t) ≡ t
kind_again t good =
    let tests = or_neither (eqb t 0) (ltb 4 t) good in
    type_again t (eqb-false t 0 tests.0) (ltb-false 4 t tests.1)

-- the request that a body says: its head is the body's front, and it is judged as the body was
record Again (f : Function) (q : Request) (s : List ℕ) : Type 0 where
  same : function_of q ≡ f
  head : head_bytes q ≡ take (head_length f) s
  faults : NoneHolds (field_faults q)
  count : (width : ℕ) (values : List ℕ) → bad_values (values_after f) width (mask_of s) values ≡ bad_values (values_after (function_of q)) width (values_mask q) values

module _ (s : List ℕ) (bytes : Bytes s) where
  number_front : (w : ℕ) → w ≤ length s → le w (of_le (field s 0 w)) ≡ take w s
  number_front w h = number_again s 0 w bytes ∙ field_take s 0 w (omega arith)

  archive_again : 18 ≤ length s → NoneHolds (field_rules F.ReadArchive s) → Again F.ReadArchive (request_of F.ReadArchive s) s
  archive_again h n =
      let et : type_number (type_from (type_of s)) ≡ type_of s = kind_again (type_of s) n.1.0 in
      let k : le 2 (type_number (type_from (type_of s))) ≡ field s 4 2 = ap (le 2) et ∙ number_again s 4 2 bytes in
      let m : le 4 (mask_of s) ≡ field s 0 4 = number_again s 0 4 bytes in
      let f : date_bytes (first_of s) ≡ field s 6 6 = date_writes_again s 6 in
      let l : date_bytes (last_of s) ≡ field s 12 6 = date_writes_again s 12 in
      let joined : field s 0 4 ++ (field s 4 2 ++ (field s 6 6 ++ field s 12 6)) ≡ field s 0 18 =
      ap (λ (x : List ℕ). field s 0 4 ++ (field s 4 2 ++ x)) (sym (field_append s 6 6 6))
      ∙ ap (λ (x : List ℕ). field s 0 4 ++ x) (sym (field_append s 4 2 12))
      ∙ sym (field_append s 0 4 14) in
      record {
        same = refl;
        head =
            ap₂ (λ (x y : List ℕ). x ++ y) m (ap₂ (λ (x y : List ℕ). x ++ y) k (ap₂ (λ (x y : List ℕ). x ++ y) f l))
            ∙ joined
            ∙ field_take s 0 18 (omega arith);
        faults = (n.0, (n.1.1.0, (n.1.1.1.0, tt)));
        count = λ width values. refl;
      }

  again : (f : Function) → head_length f ≤ length s → NoneHolds (field_rules f s) → Again f (request_of f s) s
  again F.ReadChannels h n = record { same = refl; head = number_front 4 h; faults = n; count = λ width values. refl }
  again F.WriteChannels h n = record { same = refl; head = number_front 4 h; faults = n; count = λ width values. refl }
  again F.ReadClock h n = record { same = refl; head = refl; faults = tt; count = λ width values. refl }
  again F.SetClock h n = record { same = refl; head = date_writes_again s 0 ∙ field_take s 0 6 (omega arith); faults = n; count = λ width values. refl }
  again F.ReadArchive h n = archive_again h n
  again F.ReadParameter h n = record { same = refl; head = number_front 2 h; faults = tt; count = λ width values. refl }
  again F.WriteParameter h n = record { same = refl; head = number_front 2 h; faults = tt; count = λ width values. refl }

named_reading : (f : Function) (s : List ℕ) → T (named (field_rules f s))
named_reading F.ReadChannels s = tt
named_reading F.WriteChannels s = tt
named_reading F.ReadClock s = tt
named_reading F.SetClock s = tt
named_reading F.ReadArchive s = tt
named_reading F.ReadParameter s = tt
named_reading F.WriteParameter s = tt

-- a known function keeps its number
kept : (n : ℕ) (h : Function) → function_from n ≡ Some h → function_number h ≡ n
kept n h =
    let one = number_kept function_number n in
    one 0x01 F.ReadChannels h _ refl
    (one 0x02 F.WriteChannels h _ refl
    (one 0x04 F.ReadClock h _ refl
    (one 0x05 F.SetClock h _ refl
    (one 0x06 F.ReadArchive h _ refl
    (one 0x0A F.ReadParameter h _ refl
    (one 0x0B F.WriteParameter h None refl (λ u. absurd (cc))))))))

module _ (number width : ℕ) (s : List ℕ) (bytes : Bytes s) (out : List ℕ) (r : Written) (out' : List ℕ) (fits : length s ≤ length out) where
  -- the request that the body says
  said_again : (f : Function) → function_from number ≡ Some f → first (request_rules (Some f) width s) ≡ 0 → (q : Request) → request_of f s ≡ q
      → Writes (first (writing_rules q width (values_of q s) (length out))) (request_bytes q (values_of q s)) out r out'
      → (function_number (function_of q) ≡ number) × (r ≡ Ok (length s)) × (out' ≡ over out s)
  said_again f known none q e w =
      let lengths = body_rules (Some (form_of f)) width (mask_of s) s in
      let parts = none_append lengths (field_rules f s) (none_first (request_rules (Some f) width s) (named_numbered (request_rules (Some f) width s) (named_reading f s)) none) in
      let whole = head_within (form_of f) width (mask_of s) s parts.0 in
      let a = subst (λ (p : Request). Again f p s) e (again s bytes f whole parts.1) in
      let values : values_of q s ≡ drop (head_length f) s = ap (λ (g : Function). drop (head_length g) s) a.same in
      let o = body_again (form_of f) (values_after (function_of q)) width (values_mask q) (mask_of s) s (head_bytes q) (values_of q s) (field_faults q) out r out' (a.count width (values_of q s)) parts.0 a.head values a.faults fits w in
      (ap function_number a.same ∙ kept number f known, o.0, o.1)

pub request_writes_again : (number width : ℕ) (s : List ℕ) (q : Request) (out : List ℕ) (r : Written) (out' : List ℕ) → Bytes s → length s ≤ length out
    → read_request number width s ≡ Ok q
    → Writes (first (writing_rules q width (values_of q s) (length out))) (request_bytes q (values_of q s)) out r out'
    → (function_number (function_of q) ≡ number) × (r ≡ Ok (length s)) × (out' ≡ over out s)
unfolding read_request
request_writes_again number width s q out r out' bytes fits e w =
    let ok = reading_accepts form_of (λ (f : Function). field_rules f s) (λ (f : Function). request_of f s) width (mask_of s) s (function_from number) q e in
    said_again number width s bytes out r out' fits ok.0 ok.1 ok.2 q ok.3 w

-- ---- the order of refusals, of what is told

pub read_request_first : (number width : ℕ) (s : List ℕ)
    → FirstInOrder (request_rules (function_from number) width s) (told_request (read_request number width s)).number
unfolding read_request
read_request_first number width s =
    reading_first form_of (λ (f : Function). field_rules f s) (λ (f : Function). request_of f s) width (mask_of s) s (λ (x : Result Request Refusal). (told_request x).number) (λ e. refl) (λ q. refl) (λ f. named_reading f s) (function_from number)

pub write_request_first : (q : Request) (width : ℕ) (vs out : List ℕ) (r : Written) (out' : List ℕ)
    → Writes (first (writing_rules q width vs (length out))) (request_bytes q vs) out r out'
    → FirstInOrder (writing_rules q width vs (length out)) (told_written r).number
write_request_first q width vs out r out' w =
    let bs = request_bytes q vs in
    let numbers = numbered_writing (values_after (function_of q)) width (values_mask q) vs (field_faults q) (length bs) (length out) (named_numbered (field_faults q) (named_faults q)) in
    written_first (writing_rules q width vs (length out)) bs out r out' numbers w
