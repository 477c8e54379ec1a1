-- Every lawful envelope keeps the promises.
-- Assumes nothing.
use mathlib.Core.Path.{◌≡◌, sym, ap, ap₂, ◌∙◌, subst}
use mathlib.Core.List.{List}
use Prim.Native.Nat.{ℕ, ◌+◌, ◌-◌, ◌<◌, ◌≤◌}
use native.Mathlib.Omega.{arith}
use lib.Dec.{lit<}
use lib.ListN.{length, take, drop}
use lib.Seq.{take_at}
use Rattle.wire.specs.Each.{Bytes}
use Rattle.wire.specs.Refusal.{Rule, NoneHolds}
use Rattle.std.specs.Prelude.{Ok}
use Rattle.wire.specs.Numbers.{over}
use Rattle.wire.proofs.Each.{get_d_each, each_take, each_drop}
use Rattle.modbus.specs.Envelope.{Message, Envelope, message, content_of, plain_of, bytes_of, said_by, address_of, function_of, data_of, line_length}
use Rattle.modbus.specs.Promise.{Fits, Carries, OneEnvelope, ReadsBack, WritesAgain}
use Rattle.modbus.proofs.Fields as fields
use Rattle.modbus.proofs.Lawful.{Lawful}

pub same_message : (x m : Message) → x.address ≡ m.address → x.function ≡ m.function → x.«data» ≡ m.«data» → x ≡ m
same_message x m a f d = ap₂ (λ (y z : ℕ). message y z x.«data») a f ∙ ap (message m.address m.function) d

module _ (e : Envelope) (rules : List ℕ → List Rule) (law : Lawful e rules) where
  -- ---- written
  module _ (m : Message) where
    abbrev Head : List ℕ
    Head = e.head (content_of m)

    abbrev Tail : List ℕ
    Tail = e.tail (content_of m)

    hb : length Head ≡ e.before
    hb = law.head_length_lem (content_of m)

    ha : length Tail ≡ e.after
    ha = law.tail_length (content_of m)

    whole_length : length (bytes_of e m) ≡ line_length e (length m.«data»)
    unfolding bytes_of
    whole_length =
        law.line_length_lem (plain_of e m)
        ∙ ap e.size (fields.written_length Head Tail e.before e.after hb ha m.address m.function m.«data»)

    says : Fits m → said_by e (bytes_of e m) ≡ m
    says fit =
        let P = plain_of e m in
        ap (λ (p : List ℕ). message (address_of e.before p) (function_of e.before p) (data_of e.before e.after p)) (law.line_there m fit)
        ∙ same_message (message (address_of e.before P) (function_of e.before P) (data_of e.before e.after P)) m
        (fields.written_address Head Tail e.before e.after hb ha m.address m.function m.«data»)
        (fields.written_function Head Tail e.before e.after hb ha m.address m.function m.«data»)
        (fields.written_data Head Tail e.before e.after hb ha m.address m.function m.«data»)

    carried : Fits m → length m.«data» ≤ 252 → Carries e rules (bytes_of e m) m
    carried fit small =
        let d = length m.«data» in
        let least = law.size_up (e.before + 2 + 0 + e.after) (e.before + 2 + d + e.after) (omega arith) in
        let most = law.size_up (e.before + 2 + d + e.after) (e.before + 2 + 252 + e.after) (omega arith) in
        record {
          accepted = law.faultless m fit (omega (arith, whole_length, least)) (omega (arith, whole_length, most));
          says = says fit;
          begins = sym (ap (λ (p : List ℕ). take e.before p) (law.line_there m fit) ∙ take_at Head _ e.before hb);
        }

  -- ---- read
  module _ (s : List ℕ) (hs : Bytes s) (none : NoneHolds (rules s)) where
    abbrev Q : List ℕ
    Q = e.of_line s

    long : length s ≡ e.size (length Q)
    long = sym (ap length (law.line_back s hs none)) ∙ law.line_length_lem Q

    least : e.before + 2 + e.after ≤ length Q
    least =
        let h = law.size_down (e.before + 2 + 0 + e.after) (length Q) (omega (arith, long, (law.limits s none).0)) in
        omega arith

    small : length (said_by e s).«data» ≤ 252
    small =
        let h = law.size_down (length Q) (e.before + 2 + 252 + e.after) (omega (arith, long, (law.limits s none).1)) in
        omega (arith, fields.read_length e.before e.after Q least)

    fits : Fits (said_by e s)
    fits =
        let hq = law.line_bytes_lem s hs in
        let zero-byte : 0 < 256 = lit< tt in
        (get_d_each (λ b. b < 256) zero-byte Q hq e.before, (get_d_each (λ b. b < 256) zero-byte Q hq (e.before + 1), each_take (λ b. b < 256) (length Q - (e.before + 2 + e.after)) (drop (e.before + 2) Q) (each_drop (λ b. b < 256) (e.before + 2) Q hq)))

    again : e.head (content_of (said_by e s)) ≡ take e.before Q → bytes_of e (said_by e s) ≡ s
    unfolding bytes_of
    again begins =
        let c = content_of (said_by e s) in
        ap e.on_line (fields.read_again e.before e.after Q least (e.head c) (e.tail c) begins (law.tail_back s hs none))
        ∙ law.line_back s hs none

  own : (s : List ℕ) (m : Message) → Bytes s → Carries e rules s m → (s ≡ bytes_of e m) × Fits m × (length m.«data» ≤ 252)
  own s m hs c =
      let none = c.accepted in
      let begins = ap (λ (x : Message). e.head (content_of x)) c.says ∙ c.begins in
      (sym (ap (bytes_of e) (sym c.says) ∙ again s hs none begins), subst Fits c.says (fits s hs none), subst (λ (x : Message). length x.«data» ≤ 252) c.says (small s hs none))

  -- ---- the promises
  pub one_envelope : OneEnvelope e rules
  one_envelope = (carried, own)

  module _ (Answers : List ℕ → Message → Type 0) where
    pub reads_back : ((s : List ℕ) (m : Message) → Carries e rules s m → Answers s m) → ReadsBack e Answers
    reads_back answers m out r out' k fit w q =
        let front = fields.written_front e m out r out' w k q in
        subst (λ (l : List ℕ). Answers l m) (sym front.1) (answers (bytes_of e m) m (carried m fit front.0))

    pub writes_again : ((s : List ℕ) (m : Message) → Bytes s → Answers s m → Carries e rules s m) → WritesAgain e Answers
    writes_again carries s m out r out' hs read room w =
        let o = own s m hs (carries s m hs read) in
        let whole = fields.written_whole e m out r out' w o.2 (subst (λ (l : List ℕ). length l ≤ length out) o.0 room) in
        (whole.0 ∙ ap (λ (l : List ℕ). Ok (length l)) (sym o.0), whole.1 ∙ ap (over out) (sym o.0))
