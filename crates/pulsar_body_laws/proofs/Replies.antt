-- The laws of replies. What a writer left reads back as the same reply and values; what was accepted is written again as the same bytes,
-- under the same function: both for every kind, and once over the width. And the order of refusals, of the number that is told.
-- Assumes nothing.
use mathlib.Core.Path.{◌≡◌, refl, sym, ap, ap₂, ◌∙◌, subst}
use mathlib.Core.Bool.{Bool, true, false, cond, not, ◌||◌}
use mathlib.Core.List.{List, [], ◌∷◌, ◌++◌, append_assoc}
use Prim.Native.Nat.{ℕ, ◌^◌, ◌≤◌, ◌<◌}
use native.Mathlib.Omega.{arith}
use lib.Dec.{T, eqb}
use lib.ListN.{length, take, drop, get_or}
use borrow.Author.Tests.{eqb-true, not-false}
use Rattle.wire.specs.Each.{Bytes}
use Rattle.wire.specs.Numbers.{le, field, over}
use Rattle.wire.specs.Refusal.{first, NoneHolds, named, FirstInOrder}
use Rattle.std.specs.Prelude.{Option, None, Some, Result, Ok}
use Rattle.wire.specs.declared.refusals.Refusal.{Refusal}
use Rattle.wire.specs.Writes.{Written, Writes, told_written}
use Rattle.wire.proofs.Bools.{or_neither}
use Rattle.wire.proofs.Fields.{field_at, field_take, field_append, number_at, number_again}
use Rattle.wire.proofs.Numbers.{length_le}
use Rattle.wire.proofs.Rules.{first_none, none_first, none_append, none_both, named_numbered}
use Rattle.wire.proofs.Answer.{judged_none}
use Rattle.wire.proofs.Writes.{written_first}
use Rattle.date.specs.Date.{date_bytes, date_of, is_date, is_no_date, no_date}
use Rattle.date.specs.declared.DateTime.{DateTime}
use Rattle.date.proofs.Laws.{date_writes_again, date_some, no_date_lem, no_date_is, no_date_bytes}
use Rattle.pulsar_body.specs.Fields.{mask_of, date_in, not_one, not_date}
use Rattle.pulsar_body.specs.Body.{bad_values, body_rules, reading_answer}
use Rattle.pulsar_body.proofs.RoundTrip.{numbered_writing, body_back, head_within, body_again, reading_accepts, reading_first, number_kept}
use Rattle.pulsar_reply.specs.Layout.{function_from, function_of, function_number, head_bytes, archive_bytes, reply_bytes, head_length, values_after, form_of, first_of, clock_of, reply_of, values_of}
use Rattle.pulsar_reply.specs.Fields.{not_clock, not_zero}
use Rattle.pulsar_reply.specs.Reading.{field_rules, reply_rules, read_reply, told_reply}
use Rattle.pulsar_reply.specs.Writing.{field_faults, writing_rules}
use Rattle.pulsar_reply.specs.declared.ArchiveReply.{ArchiveReply}
use Rattle.pulsar_reply.specs.declared.Reply.{Reply}
use Rattle.pulsar_reply.specs.declared.Reply.TheVariants as P
use Rattle.pulsar_reply.specs.declared.Function.{Function}
use Rattle.pulsar_reply.specs.declared.Function.TheVariants as F
use Rattle.pulsar_reply.specs.Heads.{length_head, named_faults}
use Rattle.pulsar_body_laws.specs.Sized.{SizedReply}

-- ---- what is written reads back

-- the fields of a reply's bytes
record Back (q : Reply) (mask : ℕ) (s : List ℕ) : Type 0 where
  fields : reply_of (function_of q) s ≡ q
  rules : NoneHolds (field_rules (function_of q) mask s)

clock_date : (d : DateTime) → is_date d ≡ true → clock_of d ≡ P.Clock d
clock_date d e = ap (λ (b : Bool). cond b P.NoClock (P.Clock d)) (date_some d e)

clock_good : (d : DateTime) → is_date d ≡ true → not_clock d ≡ false
clock_good d e = ap (λ (b : Bool). not (b || is_no_date d)) e

clock_back : (s : List ℕ) (d : DateTime) (mask : ℕ) → date_in s ≡ d → not_date d ≡ false → Back (P.Clock d) mask s
clock_back s d mask e good =
    let is = not-false (is_date d) good in
    record { fields = ap clock_of e ∙ clock_date d is; rules = (ap not_clock e ∙ clock_good d is, tt) }

none_back : (s : List ℕ) (mask : ℕ) → date_in s ≡ no_date → Back P.NoClock mask s
none_back s mask e =
    record {
      fields = ap clock_of e ∙ ap (λ (b : Bool). cond b P.NoClock (P.Clock no_date)) no_date_is;
      rules = (ap not_clock e ∙ ap₂ (λ (a b : Bool). not (a || b)) no_date_lem no_date_is, tt);
    }

archive_back : (a : ArchiveReply) (vs : List ℕ) (mask : ℕ) → a.mask < 256 ^ 4 → NoneHolds (field_faults (P.Archive a) mask)
    → Back (P.Archive a) mask (archive_bytes a ++ vs)
archive_back a vs mask h n =
    let m = le 4 a.mask in
    let f = date_bytes a.first in
    let s = archive_bytes a ++ vs in
    let regroup : s ≡ m ++ (f ++ vs) = append_assoc m f vs in
    let em : mask_of s ≡ a.mask = ap mask_of regroup ∙ number_at [] (f ++ vs) 0 4 a.mask refl h in
    let ef : first_of s ≡ a.first = ap first_of regroup ∙ ap date_of (field_at m f vs 4 6 (length_le 4 a.mask) refl) in
    record { fields = ap P.Archive (made em ef); rules = (ap not_one em ∙ n.0, (ap not_date ef ∙ n.1.0, tt)) }
  where
    made : {m m' : ℕ} {f f' : DateTime} → m ≡ m' → f ≡ f' → ◌≡◌ {A = ArchiveReply} (record { mask = m; first = f }) (record { mask = m'; first = f' })
    made em ef = rw (em, ef) refl

back : (q : Reply) (vs : List ℕ) (mask : ℕ) → SizedReply q → NoneHolds (field_faults q mask) → Back q mask (reply_bytes q vs)
back (P.Error n) vs mask h k = record { fields = refl; rules = tt }
back P.Channels vs mask h k = record { fields = refl; rules = k }
back (P.ChannelsWritten m) vs mask h k = record { fields = ap P.ChannelsWritten (number_at [] vs 0 4 m refl h); rules = tt }
back (P.Clock d) vs mask h k = clock_back (date_bytes d ++ vs) d mask (ap date_of (field_at [] (date_bytes d) vs 0 6 refl refl)) k.0
back P.NoClock vs mask h k = none_back (date_bytes no_date ++ vs) mask (ap date_of (field_at [] (date_bytes no_date) vs 0 6 refl refl))
back (P.ClockSet status) vs mask h k = record { fields = refl; rules = (k.0, (refl, tt)) }
back (P.Archive a) vs mask h k = archive_back a vs mask h k
back P.Parameter vs mask h k = record { fields = refl; rules = tt }
back P.ParameterWritten vs mask h k = record { fields = refl; rules = (refl, tt) }

known_back : (q : Reply) → function_from (function_number (function_of q)) ≡ Some (function_of q)
known_back (P.Error n) = refl
known_back P.Channels = refl
known_back (P.ChannelsWritten m) = refl
known_back (P.Clock d) = refl
known_back P.NoClock = refl
known_back (P.ClockSet status) = refl
known_back (P.Archive a) = refl
known_back P.Parameter = refl
known_back P.ParameterWritten = refl

pub reply_reads_back : (q : Reply) (width mask : ℕ) (vs out out' : List ℕ) (n : ℕ) → SizedReply q
    → Writes (first (writing_rules q width mask vs (length out))) (reply_bytes q vs) out (Ok n) out'
    → (read_reply (function_number (function_of q)) width mask (take n out') ≡ Ok q) × (values_of q (take n out') ≡ vs)
unfolding read_reply
reply_reads_back q width mask vs out out' n sized w =
    let f = function_of q in
    let s = reply_bytes q vs in
    let known = known_back q in
    let o = body_back (form_of f) width mask mask (head_bytes q) vs (field_faults q mask) out out' n refl (length_head q) (named_numbered (field_faults q mask) (named_faults q mask)) w in
    let b = back q vs mask sized o.3 in
    let accepts = first_none (reply_rules (Some f) width mask s) (none_both (body_rules (Some (form_of f)) width mask s) (field_rules f mask s) o.2 b.rules) in
    let reads : read_reply (function_number f) width mask s ≡ Ok q =
    ap (λ (g : Option Function). reading_answer form_of (λ (f : Function). field_rules f mask s) (λ (f : Function). reply_of f s) g width mask s) known
    ∙ judged_none (reply_of f s) (first (reply_rules (Some f) width mask s)) accepts
    ∙ ap Ok b.fields in
    subst (λ (x : List ℕ). (read_reply (function_number f) width mask x ≡ Ok q) × (values_of q x ≡ vs)) (sym o.0) (reads, o.1)

-- ---- what is accepted is written again

-- the reply that a body says: its head is the body's front, and it is judged as the body was
record Again (f : Function) (q : Reply) (mask : ℕ) (s : List ℕ) : Type 0 where
  same : function_of q ≡ f
  head : head_bytes q ≡ take (head_length f) s
  faults : NoneHolds (field_faults q mask)

-- a zero where it belongs
zero_at : (s : List ℕ) (at : ℕ) → not_zero s at ≡ false → 0 ≡ get_or s at 0
zero_at s at e = sym (eqb-true (get_or s at 0) 0 (not-false (eqb (get_or s at 0) 0) e))

field_1 : (s : List ℕ) → field s 0 1 ≡ get_or s 0 0 ∷ []
unfolding field
field_1 s = refl

field_2 : (s : List ℕ) → field s 0 2 ≡ get_or s 0 0 ∷ get_or s 1 0 ∷ []
unfolding field
field_2 s = refl

field_4 : (s : List ℕ) → field s 0 4 ≡ get_or s 0 0 ∷ get_or s 1 0 ∷ get_or s 2 0 ∷ get_or s 3 0 ∷ []
unfolding field
field_4 s = refl

module _ (s : List ℕ) (bytes : Bytes s) (mask : ℕ) where
  front : (w : ℕ) → w ≤ length s → field s 0 w ≡ take w s
  front w h = field_take s 0 w (omega arith)

  clock_again : 6 ≤ length s → not_clock (date_in s) ≡ false → Again F.Clock (clock_of (date_in s)) mask s
  clock_again h good = go (is_no_date (date_in s)) refl
    where
      only : (a b : Bool) → (a || b) ≡ true → b ≡ false → a ≡ true
      only true b e n = refl
      only false b e n = sym n ∙ e

      go : (b : Bool) → is_no_date (date_in s) ≡ b → Again F.Clock (clock_of (date_in s)) mask s
      go true e =
          subst (λ (q : Reply). Again F.Clock q mask s) (sym (ap (λ (b : Bool). cond b P.NoClock (P.Clock (date_in s))) e))
          (record { same = refl; head = no_date_bytes (date_in s) e ∙ date_writes_again s 0 ∙ front 6 h; faults = tt })
      go false e =
          let either : (is_date (date_in s) || is_no_date (date_in s)) ≡ true = not-false (is_date (date_in s) || is_no_date (date_in s)) good in
          subst (λ (q : Reply). Again F.Clock q mask s) (sym (ap (λ (b : Bool). cond b P.NoClock (P.Clock (date_in s))) e))
          (record { same = refl; head = date_writes_again s 0 ∙ front 6 h; faults = (ap not (only (is_date (date_in s)) (is_no_date (date_in s)) either e), tt) })

  status_again : 4 ≤ length s → NoneHolds (field_rules F.ClockSet mask s) → Again F.ClockSet (reply_of F.ClockSet s) mask s
  status_again h n =
      let three = or_neither (not_zero s 1 || not_zero s 2) (not_zero s 3) n.1.0 in
      let two = or_neither (not_zero s 1) (not_zero s 2) three.0 in
      let zeros : ◌≡◌ {A = List ℕ} (get_or s 0 0 ∷ 0 ∷ 0 ∷ 0 ∷ []) (get_or s 0 0 ∷ get_or s 1 0 ∷ get_or s 2 0 ∷ get_or s 3 0 ∷ []) =
      rw (← (zero_at s 1 two.0), ← (zero_at s 2 two.1), ← (zero_at s 3 three.1)) refl in
      record { same = refl; head = zeros ∙ sym (field_4 s) ∙ front 4 h; faults = (n.0, tt) }

  written_again : 2 ≤ length s → NoneHolds (field_rules F.ParameterWritten mask s) → Again F.ParameterWritten P.ParameterWritten mask s
  written_again h n =
      let two = or_neither (not_zero s 0) (not_zero s 1) n.0 in
      let zeros : ◌≡◌ {A = List ℕ} (0 ∷ 0 ∷ []) (get_or s 0 0 ∷ get_or s 1 0 ∷ []) =
      rw (← (zero_at s 0 two.0), ← (zero_at s 1 two.1)) refl in
      record { same = refl; head = zeros ∙ sym (field_2 s) ∙ front 2 h; faults = tt }

  archive_again : 10 ≤ length s → NoneHolds (field_rules F.Archive mask s) → Again F.Archive (reply_of F.Archive s) mask s
  archive_again h n =
      record {
        same = refl;
        head = ap₂ (λ (x y : List ℕ). x ++ y) (number_again s 0 4 bytes) (date_writes_again s 4) ∙ sym (field_append s 0 4 6) ∙ front 10 h;
        faults = n;
      }

  again : (f : Function) → head_length f ≤ length s → NoneHolds (field_rules f mask s) → Again f (reply_of f s) mask s
  again F.Error h n = record { same = refl; head = sym (field_1 s) ∙ front 1 h; faults = tt }
  again F.Channels h n = record { same = refl; head = refl; faults = n }
  again F.ChannelsWritten h n = record { same = refl; head = number_again s 0 4 bytes ∙ front 4 h; faults = tt }
  again F.Clock h n = clock_again h n.0
  again F.ClockSet h n = status_again h n
  again F.Archive h n = archive_again h n
  again F.Parameter h n = record { same = refl; head = refl; faults = tt }
  again F.ParameterWritten h n = written_again h n

named_reading : (f : Function) (mask : ℕ) (s : List ℕ) → T (named (field_rules f mask s))
named_reading F.Error mask s = tt
named_reading F.Channels mask s = tt
named_reading F.ChannelsWritten mask s = tt
named_reading F.Clock mask s = tt
named_reading F.ClockSet mask s = tt
named_reading F.Archive mask s = tt
named_reading F.Parameter mask s = tt
named_reading F.ParameterWritten mask s = tt

-- a known function keeps its number
kept : (n : ℕ) (h : Function) → function_from n ≡ Some h → function_number h ≡ n
kept n h =
    let one = number_kept function_number n in
    one 0x00 F.Error h _ refl
    (one 0x01 F.Channels h _ refl
    (one 0x02 F.ChannelsWritten h _ refl
    (one 0x04 F.Clock h _ refl
    (one 0x05 F.ClockSet h _ refl
    (one 0x06 F.Archive h _ refl
    (one 0x0A F.Parameter h _ refl
    (one 0x0B F.ParameterWritten h None refl (λ u. absurd (cc)))))))))

module _ (number width mask : ℕ) (s : List ℕ) (bytes : Bytes s) (out : List ℕ) (r : Written) (out' : List ℕ) (fits : length s ≤ length out) where
  -- the reply that the body says
  said_again : (f : Function) → function_from number ≡ Some f → first (reply_rules (Some f) width mask s) ≡ 0 → (q : Reply) → reply_of f s ≡ q
      → Writes (first (writing_rules q width mask (values_of q s) (length out))) (reply_bytes q (values_of q s)) out r out'
      → (function_number (function_of q) ≡ number) × (r ≡ Ok (length s)) × (out' ≡ over out s)
  said_again f known none q e w =
      let lengths = body_rules (Some (form_of f)) width mask s in
      let parts = none_append lengths (field_rules f mask s) (none_first (reply_rules (Some f) width mask s) (named_numbered (reply_rules (Some f) width mask s) (named_reading f mask s)) none) in
      let whole = head_within (form_of f) width mask s parts.0 in
      let a = subst (λ (p : Reply). Again f p mask s) e (again s bytes mask f whole parts.1) in
      let values : values_of q s ≡ drop (head_length f) s = ap (λ (g : Function). drop (head_length g) s) a.same in
      let count = ap (λ (g : Function). bad_values (values_after g) width mask (values_of q s)) (sym a.same) in
      let o = body_again (form_of f) (values_after (function_of q)) width mask mask s (head_bytes q) (values_of q s) (field_faults q mask) out r out' count parts.0 a.head values a.faults fits w in
      (ap function_number a.same ∙ kept number f known, o.0, o.1)

pub reply_writes_again : (number width mask : ℕ) (s : List ℕ) (q : Reply) (out : List ℕ) (r : Written) (out' : List ℕ) → Bytes s → length s ≤ length out
    → read_reply number width mask s ≡ Ok q
    → Writes (first (writing_rules q width mask (values_of q s) (length out))) (reply_bytes q (values_of q s)) out r out'
    → (function_number (function_of q) ≡ number) × (r ≡ Ok (length s)) × (out' ≡ over out s)
unfolding read_reply
reply_writes_again number width mask s q out r out' bytes fits e w =
    let ok = reading_accepts form_of (λ (f : Function). field_rules f mask s) (λ (f : Function). reply_of f s) width mask s (function_from number) q e in
    said_again number width mask s bytes out r out' fits ok.0 ok.1 ok.2 q ok.3 w

-- ---- the order of refusals, of what is told

pub read_reply_first : (number width mask : ℕ) (s : List ℕ)
    → FirstInOrder (reply_rules (function_from number) width mask s) (told_reply (read_reply number width mask s)).number
unfolding read_reply
read_reply_first number width mask s =
    reading_first form_of (λ (f : Function). field_rules f mask s) (λ (f : Function). reply_of f s) width mask s (λ (x : Result Reply Refusal). (told_reply x).number) (λ e. refl) (λ q. refl) (λ f. named_reading f mask s) (function_from number)

pub write_reply_first : (q : Reply) (width mask : ℕ) (vs out : List ℕ) (r : Written) (out' : List ℕ)
    → Writes (first (writing_rules q width mask vs (length out))) (reply_bytes q vs) out r out'
    → FirstInOrder (writing_rules q width mask vs (length out)) (told_written r).number
write_reply_first q width mask vs out r out' w =
    let bs = reply_bytes q vs in
    let numbers = numbered_writing (values_after (function_of q)) width mask vs (field_faults q mask) (length bs) (length out) (named_numbered (field_faults q mask) (named_faults q mask)) in
    written_first (writing_rules q width mask vs (length out)) bs out r out' numbers w
