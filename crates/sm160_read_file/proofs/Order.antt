-- Demand 1 of the numbers that are told; and what holds where no rule does.
-- Assumes nothing.
use mathlib.Core.Path.{◌≡◌, refl, sym, ap, ◌∙◌}
use mathlib.Core.Bool.{Bool, true, false}
use mathlib.Core.List.{List, [], ◌∷◌}
use Prim.Native.Nat.{ℕ, ◌+◌, ◌≤◌}
use native.Mathlib.Omega.{arith}
use lib.Dec.{eqb, ltb}
use lib.ListN.{length}
use borrow.Author.Tests.{ltb-false, eqb-true, eqb-false, eq-eqb, ne_eqb, not-false}
use Rattle.wire.specs.Refusal.{Rule, ◌when◌, pick, first, FirstInOrder}
use Rattle.std.specs.Prelude.{Result, Ok, Err, IsErr, IsErrAnd}
use Rattle.wire.specs.Answer.{judged, refuse}
use Rattle.std.proofs.lemmas.Result.{err_from_is_err_and}
use Rattle.wire.specs.Writes.{Written, Writes, told_written}
use Rattle.wire.specs.declared.refusals.Refusal.{Refusal}
use Rattle.wire.proofs.Answer.{named_first, none_judged, accepted_as}
use Rattle.wire.proofs.Rules.{first_none, first_named, none_first}
use Rattle.wire.proofs.Writes.{written_first, writes_judged}
use Rattle.sm160_datagram.specs.Layout.{type_of, options_of, data_of}
use Rattle.sm160_datagram.specs.Reading.{datagram_fault}
use Rattle.sm160_datagram.proofs.Bytes.{whole_length}
use Rattle.sm160_datagram.proofs.Among.{handed_among, on_among}
use Rattle.sm160_datagram.proofs.Order.{datagram_none, none_datagram}
use Rattle.sm160_read_file.specs.Layout.{status_of}
use Rattle.sm160_read_file.specs.Reading.{other_type, type_rules, file_rules, request_rules, reply_rules, request_of, read_request, read_reply, told_request_read, told_reply_read}
use Rattle.sm160_read_file.specs.declared.Request.{Request}
use Rattle.sm160_read_file.specs.Writing.{long_text, request_bytes, reply_bytes, write_rules, WritesRequest, WritesReply}

-- a request of given fields
abbrev pub request : ℕ → ℕ → Request
request offset size = record { offset = offset; size = size }

pub read_request_first : (d : List ℕ) → FirstInOrder (request_rules d) (told_request_read (read_request d)).number
unfolding read_request
read_request_first d =
    named_first refuse (Ok (request_of d)) (λ r. (told_request_read r).number) (λ n. refl) (request_rules d) tt refl

pub read_reply_first : (d : List ℕ) → FirstInOrder (reply_rules d) (told_reply_read (read_reply d)).number
unfolding read_reply
read_reply_first d = named_first refuse (Ok (status_of (options_of d))) (λ r. (told_reply_read r).number) (λ n. refl) (reply_rules d) tt refl

pub write_request_first : (offset size : ℕ) (name out : List ℕ) (r : Written) (out' : List ℕ) → WritesRequest offset size name out r out'
    → FirstInOrder (write_rules name (request_bytes offset size name) out) (told_written r).number
write_request_first offset size name out r out' w = written_first (write_rules name (request_bytes offset size name) out) (request_bytes offset size name) out r out' tt w

pub write_reply_first : (status : ℕ) (message content out : List ℕ) (r : Written) (out' : List ℕ) → WritesReply status message content out r out'
    → FirstInOrder (write_rules message (reply_bytes status message content) out) (told_written r).number
write_reply_first status message content out r out' w =
    written_first (write_rules message (reply_bytes status message content) out) (reply_bytes status message content) out r out' tt w

-- ---- as the code asks it: first what it judges of the envelope and the type, and then whether anything is bad
module _ {A : Type 0} (x : A) (type : ℕ) (bad : Bool) (d : List ℕ) where
  pub refused_before : (r : Result A Refusal) (e : Refusal) → IsErr r × IsErrAnd r (λ d. d ≡ e) → Err e ≡ judged (tt {0}) (first (type_rules type d)) → r ≡ judged x (first (file_rules type bad d))
  refused_before = handed_among x (tt {0}) (type_rules type d) (36 when bad ∷ [])

  pub judged_after : (a : Result A Refusal) → Ok (tt {0}) ≡ judged (tt {0}) (first (type_rules type d)) → a ≡ judged x (pick bad 36 0) → a ≡ judged x (first (file_rules type bad d))
  judged_after = on_among x (tt {0}) (type_rules type d) (36 when bad ∷ []) tt (tt {0})

-- and where it refused nothing, it is a datagram
pub well_formed : (type : ℕ) (d : List ℕ) → Ok (tt {0}) ≡ judged (tt {0}) (first (type_rules type d)) → datagram_fault d ≡ 0
well_formed type d e = (datagram_none d (35 when other_type type d ∷ []) (none_first (type_rules type d) tt (none_judged (tt {0}) (first (type_rules type d)) (tt {0}) e))).0

-- data, as the code asks for it: of n bytes, with o bytes of options and x of data
some_data : (n o x : ℕ) → o + x + 18 ≡ n → eqb n (o + 18) ≡ eqb x 0
some_data n o x e = go (eqb x 0) refl
  where
    go : (none : Bool) → eqb x 0 ≡ none → eqb n (o + 18) ≡ none
    go true q = eq-eqb n (o + 18) (omega (arith, eqb-true x 0 q))
    go false q = ne_eqb n (o + 18) (λ z. eqb-false x 0 q (omega arith))

pub data_in : (d : List ℕ) → datagram_fault d ≡ 0 → eqb (length d) (length (options_of d) + 18) ≡ eqb (length (data_of d)) 0
data_in d good = some_data (length d) (length (options_of d)) (length (data_of d)) (whole_length d good)

-- ---- where no rule holds, it is a datagram of the type, and nothing is bad of it; and back
module _ (type : ℕ) (bad : Bool) (d : List ℕ) where
  pub file_none : first (file_rules type bad d) ≡ 0 → (datagram_fault d ≡ 0) × (type_of d ≡ type) × (bad ≡ false)
  file_none e =
      let both = datagram_none d (35 when other_type type d ∷ 36 when bad ∷ []) (none_first (file_rules type bad d) tt e) in
      (both.0, eqb-true (type_of d) type (not-false (eqb (type_of d) type) both.1.0), both.1.1.0)

  pub none_file : datagram_fault d ≡ 0 → other_type type d ≡ false → bad ≡ false → first (file_rules type bad d) ≡ 0
  none_file good ours fine =
      first_none (file_rules type bad d) (none_datagram d (35 when other_type type d ∷ 36 when bad ∷ []) good (ours, (fine, tt)))

-- ---- what the writers are told of the length n that is due: a refusal, or that the text is short and there is room
abbrev pub MayWrite : List ℕ → List ℕ → List ℕ → ℕ → ℕ → Type 0
MayWrite text bs out n m = (length text ≤ 65535) × (n ≤ length out) × (0 ≡ first (write_rules text bs out)) × (m ≡ length bs)

module _ (text bs out : List ℕ) (n : ℕ) (e : length bs ≡ n) where
  abbrev asked_for : List Rule
  asked_for = 36 when long_text text ∷ 16 when ltb (length out) n ∷ []

  same_rules : first asked_for ≡ first (write_rules text bs out)
  same_rules = ap (λ (k : ℕ). first (36 when long_text text ∷ 16 when ltb (length out) k ∷ [])) (sym e)

  pub writes_handed : (r : Written) (d : Refusal) → IsErr r × IsErrAnd r (λ k. k ≡ d) → Err d ≡ judged n (first asked_for) → Writes (first (write_rules text bs out)) bs out r out
  writes_handed r d exit j =
      let p = err_from_is_err_and r exit.1 in
      rw (p.1, p.2) (writes_judged bs out n (Err d) (first (write_rules text bs out)) d (j ∙ ap (judged n) same_rules) refl (first_named (write_rules text bs out) tt))

  pub may_write : (m : ℕ) → Ok m ≡ judged n (first asked_for) → MayWrite text bs out n m
  may_write m j =
      let ok = accepted_as n (first asked_for) m (sym j) in
      let h = none_first asked_for tt ok.0 in
      (ltb-false 65535 (length text) h.0, ltb-false (length out) n h.1.0, sym (sym same_rules ∙ ok.0), sym (e ∙ ok.1))
