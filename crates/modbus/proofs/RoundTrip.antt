-- RTU and TCP are lawful, and so keep the promises: here are RTU's CRC and TCP's head, and what their readers answer.
-- Assumes nothing.
use mathlib.Core.Path.{◌≡◌, refl, sym, ap, ap₂, ◌∙◌}
use mathlib.Core.Bool.{false, not}
use mathlib.Core.List.{List, [], ◌++◌, append_assoc, append-nil}
use Prim.Native.Nat.{ℕ, ◌+◌, ◌-◌, ◌<◌, ◌≤◌}
use native.Mathlib.Nat.{sub-zero}
use native.Mathlib.Omega.{arith}
use lib.Dec.{eqb, lit<}
use lib.ListN.{length, take, drop, length-append, length-drop, take-append-drop}
use lib.Seq.{take_at, drop_at, drop-length}
use borrow.Author.Tests.{eq-eqb, eqb-true, not-false, le-ltb, ltb-false}
use Rattle.checksum.specs.Crc.{crc}
use Rattle.checksum.proofs.Laws.{crc_from_lt}
use Rattle.wire.specs.Each.{Bytes}
use Rattle.wire.specs.Numbers.{le, of_le, be, of_be, field}
use Rattle.wire.specs.Refusal.{first, NoneHolds}
use Rattle.wire.proofs.Answer.{judged_none, accepted_as}
use Rattle.wire.proofs.Fields.{field_at, field_take, field_append, field_bytes, length_field, number_at, number_again}
use Rattle.wire.proofs.Numbers.{length_be, length_le, of_be_be, be_of_be}
use Rattle.wire.proofs.Rules.{first_none, none_first}
use Rattle.modbus.specs.Envelope.{Message, content_of, plain_of, bytes_of, said_by, address_of, function_of}
use Rattle.modbus.specs.Promise.{Fits, Carries, Finds, OneEnvelope, ReadsBack, WritesAgain}
use Rattle.modbus.specs.Rtu.{rtu, crc_of, covered_of, bad_crc, rtu_rules, found_rtu, read_rtu, RtuAnswers}
use Rattle.modbus.specs.Tcp.{tcp, tcp_head, tcp_said, transaction_of, protocol_of, length_of, bad_protocol, bad_length, tcp_rules, found_tcp, read_tcp, TcpAnswers}
use Rattle.modbus.specs.declared.Rtu.{Rtu}
use Rattle.modbus.specs.declared.Tcp.{Tcp}
use Rattle.modbus.proofs.Fields as fields
use Rattle.modbus.proofs.Lawful.{Lawful}
use Rattle.modbus.proofs.Promise.{same_message, one_envelope, reads_back, writes_again}
use Rattle.modbus.proofs.Stores.{length_head}

-- ---- RTU
written_crc : (m : Message) → Fits m → bad_crc (plain_of rtu m) ≡ false
written_crc m fit =
    let content = content_of m in
    let S = plain_of rtu m in
    let c = crc content in
    let small : c < 65536 = crc_from_lt 0xFFFF content (lit< tt) fit in
    let at : length content ≡ length S - 2 = simp (length-append, length_le) (omega arith) in
    let e : crc_of S ≡ c =
    ap (λ (l : List ℕ). of_le (field (content ++ l) (length S - 2) 2)) (sym (append-nil (le 2 c))) ∙ number_at content [] (length S - 2) 2 c at small in
    ap not (eq-eqb (crc_of S) (crc (covered_of S)) (e ∙ ap crc (sym (take_at content (le 2 c) (length S - 2) at))))

rtu_tail : (s : List ℕ) → Bytes s → NoneHolds (rtu_rules s) → le 2 (crc (content_of (said_by rtu s))) ≡ drop (length s - 2) s
rtu_tail s hb none =
    let least : 0 + 2 + 2 ≤ length s = ltb-false (length s) 4 none.0 in
    let same : crc_of s ≡ crc (covered_of s) = eqb-true (crc_of s) (crc (covered_of s)) (not-false (eqb (crc_of s) (crc (covered_of s))) none.1.1.0) in
    ap (λ (c : List ℕ). le 2 (crc c)) (fields.read_message 0 2 s least)
    ∙ ap (le 2) (sym same)
    ∙ number_again s (length s - 2) 2 hb
    ∙ fields.read_tail 0 2 s least

rtu_lawful : Lawful rtu rtu_rules
unfolding bytes_of
rtu_lawful =
    record {
      head_length_lem = λ c. refl;
      tail_length = λ c. length_le 2 (crc c);
      line_length_lem = λ p. refl;
      size_up = λ n k h. h;
      size_down = λ n k h. h;
      rules_numbered = λ s. tt;
      limits = λ s none. (ltb-false (length s) 4 none.0, ltb-false 256 (length s) none.1.0);
      line_there = λ m fit. refl;
      faultless = λ m fit least most. (le-ltb (length (plain_of rtu m)) 4 least, (le-ltb 256 (length (plain_of rtu m)) most, (written_crc m fit, tt)));
      line_bytes_lem = λ s hb. hb;
      line_back = λ s hb none. refl;
      tail_back = rtu_tail;
    }

rtu_answers : (s : List ℕ) (m : Message) → Carries rtu rtu_rules s m → RtuAnswers s m
unfolding read_rtu
rtu_answers s m c =
    (judged_none _ _ (first_none (rtu_rules s) c.accepted) ∙ ap found_rtu c.says, ap (λ (x : Message). x.«data») c.says)

rtu_carries : (s : List ℕ) (m : Message) → Bytes s → RtuAnswers s m → Carries rtu rtu_rules s m
unfolding read_rtu
rtu_carries s m hb q =
    let ok = accepted_as (record { address = address_of 0 s; function = function_of 0 s }) (first (rtu_rules s)) (record { address = m.address; function = m.function }) q.0 in
    record {
      accepted = none_first (rtu_rules s) tt ok.0;
      says = same_message (said_by rtu s) m (ap (λ (x : Rtu). x.address) ok.1) (ap (λ (x : Rtu). x.function) ok.1) q.1;
      begins = refl;
    }

pub rtu_finds : Finds rtu rtu_rules RtuAnswers
rtu_finds s m = (rtu_answers s m, rtu_carries s m)

pub rtu_one_envelope : OneEnvelope rtu rtu_rules
rtu_one_envelope = one_envelope rtu rtu_rules rtu_lawful

pub rtu_reads_back : ReadsBack rtu RtuAnswers
rtu_reads_back = reads_back rtu rtu_rules rtu_lawful RtuAnswers rtu_answers

pub rtu_writes_again : WritesAgain rtu RtuAnswers
rtu_writes_again = writes_again rtu rtu_rules rtu_lawful RtuAnswers rtu_carries

-- ---- TCP: the fields of its head, in bytes that begin with it
module _ (t n : ℕ) (rest : List ℕ) where
  abbrev P : List ℕ
  P = tcp_head t n ++ rest

  transaction_field : field P 0 2 ≡ be 2 t
  unfolding tcp_head
  transaction_field =
      ap (λ (l : List ℕ). field l 0 2) (append_assoc (be 2 t) (be 2 0 ++ be 2 n) rest)
      ∙ field_at [] (be 2 t) (be 2 0 ++ be 2 n ++ rest) 0 2 refl (length_be 2 t)

  protocol_field : field P 2 2 ≡ be 2 0
  unfolding tcp_head
  protocol_field =
      let e : P ≡ be 2 t ++ (be 2 0 ++ (be 2 n ++ rest)) = simp append_assoc in
      ap (λ (l : List ℕ). field l 2 2) e ∙ field_at (be 2 t) (be 2 0) (be 2 n ++ rest) 2 2 (length_be 2 t) (length_be 2 0)

  length_field_is : field P 4 2 ≡ be 2 n
  unfolding tcp_head
  length_field_is =
      let e : P ≡ be 2 t ++ be 2 0 ++ (be 2 n ++ rest) = simp append_assoc in
      let four : length (be 2 t ++ be 2 0) ≡ 4 = simp (length-append, length_be) in
      ap (λ (l : List ℕ). field l 4 2) e ∙ field_at (be 2 t ++ be 2 0) (be 2 n) rest 4 2 four (length_be 2 n)

  written_protocol : bad_protocol P ≡ false
  written_protocol = ap not (eq-eqb (protocol_of P) 0 (ap of_be protocol_field ∙ of_be_be 2 0 (lit< tt)))

  written_length : n < 65536 → n ≡ length rest → bad_length P ≡ false
  written_length small e =
      let told : length_of P ≡ n = ap of_be length_field_is ∙ of_be_be 2 n small in
      let follow : length (drop 6 P) ≡ length rest = ap length (drop_at (tcp_head t n) rest 6 (length_head t n)) in
      ap not (eq-eqb (length_of P) (length (drop 6 P)) (told ∙ e ∙ sym follow))

-- a number read from two bytes, written again
again : (s : List ℕ) (at : ℕ) → Bytes s → be 2 (of_be (field s at 2)) ≡ field s at 2
again s at hb = ap (λ (w : ℕ). be w (of_be (field s at 2))) (sym (length_field s at 2)) ∙ be_of_be (field s at 2) (field_bytes s at 2 hb)

-- bytes that are accepted begin with the head of what they say
tcp_head_lem : (s : List ℕ) → Bytes s → NoneHolds (tcp_rules s) → tcp_head (transaction_of s) (length (content_of (tcp_said s))) ≡ take 6 s
unfolding tcp_head
tcp_head_lem s hb none =
    let least : 6 + 2 + 0 ≤ length s = ltb-false (length s) 8 none.0 in
    let known = fields.read_length 6 0 s least in
    let zero-protocol : protocol_of s ≡ 0 = eqb-true (protocol_of s) 0 (not-false (eqb (protocol_of s) 0) none.1.1.0) in
    let told : length_of s ≡ length (drop 6 s) = eqb-true (length_of s) (length (drop 6 s)) (not-false (eqb (length_of s) (length (drop 6 s))) none.1.1.1.0) in
    let n : length (content_of (tcp_said s)) ≡ length_of s = omega (arith, length-drop 6 s) in
    let six : 0 + 6 ≤ length s = omega arith in
    ap₂ (λ (p l : ℕ). be 2 (transaction_of s) ++ (be 2 p ++ be 2 l)) (sym zero-protocol) n
    ∙ (cc (again s 0 hb, again s 2 hb, again s 4 hb, field_append s 0 2 4, field_append s 2 2 2))
    ∙ field_take s 0 6 six

module _ (t : ℕ) where
  tcp_faultless : (m : Message) → 8 ≤ length (plain_of (tcp t) m) → length (plain_of (tcp t) m) ≤ 260 → NoneHolds (tcp_rules (plain_of (tcp t) m))
  tcp_faultless m least most =
      let c = content_of m in
      let S = plain_of (tcp t) m in
      let long : length S ≡ 6 + length c = simp (length-append, length_head) (omega arith) in
      let all : length c ≡ length (c ++ []) = sym (ap length (append-nil c)) in
      (le-ltb (length S) 8 least, (le-ltb 260 (length S) most, (written_protocol t (length c) (c ++ []), (written_length t (length c) (c ++ []) (omega (arith, long, most)) all, tt))))

  tcp_lawful : Lawful (tcp t) tcp_rules
  unfolding bytes_of
  tcp_lawful =
      record {
        head_length_lem = λ c. length_head t (length c);
        tail_length = λ c. refl;
        line_length_lem = λ p. refl;
        size_up = λ n k h. h;
        size_down = λ n k h. h;
        rules_numbered = λ s. tt;
        limits = λ s none. (ltb-false (length s) 8 none.0, ltb-false 260 (length s) none.1.0);
        line_there = λ m fit. refl;
        faultless = λ m fit least most. tcp_faultless m least most;
        line_bytes_lem = λ s hb. hb;
        line_back = λ s hb none. refl;
        tail_back = λ s hb none. sym (ap (λ (k : ℕ). drop k s) (sub-zero (length s)) ∙ drop-length s);
      }

  tcp_carries : (s : List ℕ) (m : Message) → Bytes s → TcpAnswers t s m → Carries (tcp t) tcp_rules s m
  unfolding read_tcp
  tcp_carries s m hb q =
      let ok = accepted_as (record { transaction = transaction_of s; unit = address_of 6 s; function = function_of 6 s }) (first (tcp_rules s)) (record { transaction = t; unit = m.address; function = m.function }) q.0 in
      let none = none_first (tcp_rules s) tt ok.0 in
      let said = same_message (tcp_said s) m (ap (λ (x : Tcp). x.unit) ok.1) (ap (λ (x : Tcp). x.function) ok.1) q.1 in
      record {
        accepted = none;
        says = said;
        begins = ap₂ (λ (x : ℕ) (y : Message). tcp_head x (length (content_of y))) (sym (ap (λ (x : Tcp). x.transaction) ok.1)) (sym said) ∙ tcp_head_lem s hb none;
      }

  -- the transaction of bytes that begin with the envelope's head
  stands : t < 65536 → (s : List ℕ) (n : ℕ) → tcp_head t n ≡ take 6 s → transaction_of s ≡ t
  stands ht s n e =
      ap (λ (l : List ℕ). of_be (field l 0 2)) (sym (take-append-drop 6 s) ∙ ap (λ (l : List ℕ). l ++ drop 6 s) (sym e))
      ∙ ap of_be (transaction_field t n (drop 6 s))
      ∙ of_be_be 2 t ht

  tcp_answers : t < 65536 → (s : List ℕ) (m : Message) → Carries (tcp t) tcp_rules s m → TcpAnswers t s m
  unfolding read_tcp
  tcp_answers ht s m c = (
    judged_none _ _ (first_none (tcp_rules s) c.accepted)
        ∙ ap₂ found_tcp (stands ht s (length (content_of m)) c.begins) c.says,
    ap (λ (x : Message). x.«data») c.says,
  )

  pub tcp_one_envelope : OneEnvelope (tcp t) tcp_rules
  tcp_one_envelope = one_envelope (tcp t) tcp_rules tcp_lawful

  pub tcp_finds : t < 65536 → Finds (tcp t) tcp_rules (TcpAnswers t)
  tcp_finds ht s m = (tcp_answers ht s m, tcp_carries s m)

  pub tcp_reads_back : t < 65536 → ReadsBack (tcp t) (TcpAnswers t)
  tcp_reads_back ht = reads_back (tcp t) tcp_rules tcp_lawful (TcpAnswers t) (tcp_answers ht)

  pub tcp_writes_again : WritesAgain (tcp t) (TcpAnswers t)
  tcp_writes_again = writes_again (tcp t) tcp_rules tcp_lawful (TcpAnswers t) tcp_carries
