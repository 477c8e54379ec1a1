-- The round trips of the datagram.
-- Assumes nothing.
use mathlib.Core.Path.{◌≡◌, sym, ap, ◌∙◌, subst}
use mathlib.Core.List.{List}
use Prim.Native.Nat.{ℕ, ◌+◌, ◌^◌, ◌<◌, ◌≤◌}
use native.Mathlib.Omega.{arith}
use lib.ListN.{length, take}
use borrow.Author.Tests.{ltb-false, le-ltb}
use Rattle.wire.specs.Each.{Bytes}
use Rattle.wire.specs.Numbers.{over}
use Rattle.wire.specs.Refusal.{first}
use Rattle.std.specs.Prelude.{Ok}
use Rattle.wire.specs.Writes.{Written}
use Rattle.wire.proofs.Answer.{judged_none, accepted_as}
use Rattle.wire.proofs.Rules.{first_none, none_first}
use Rattle.wire.proofs.Writes.{wrote_front, wrote_all}
use Rattle.sm160_datagram.specs.Layout.{datagram_bytes, type_of, options_of, data_of}
use Rattle.sm160_datagram.specs.Reading.{datagram_fault, read_datagram}
use Rattle.sm160_datagram.specs.Writing.{write_rules, WritesDatagram}
use Rattle.sm160_datagram.proofs.Bytes.{made_type, made_options, made_data, made_good, options_small, read_bytes, whole_length}

-- What is written reads back: where the writer of a type, options and data answers a length, the bytes of that length are read as the same.
pub datagram_reads_back : (type : ℕ) (options content out : List ℕ) (r : Written) (out' : List ℕ) (n : ℕ)
    → type < 256 → Bytes options → Bytes content → length content < 256 ^ 8
    → WritesDatagram type options content out r out' → r ≡ Ok n
    → (read_datagram (take n out') ≡ Ok type) × (options_of (take n out') ≡ options) × (data_of (take n out') ≡ content)
unfolding read_datagram
datagram_reads_back type options content out r out' n ht ho hc large w e =
    let front = wrote_front (first (write_rules options content out)) (datagram_bytes type options content) out r out' n w e in
    let none = none_first (write_rules options content out) tt front.0 in
    let small : length options < 4294967296 = let k : length options ≤ 4294967295 = ltb-false 4294967295 (length options) none.0 in omega arith in
    let D = datagram_bytes type options content in
    let reads : read_datagram D ≡ Ok type =
    judged_none (type_of D) (datagram_fault D) (made_good type options content small ht ho hc large) ∙ ap Ok (made_type type options content) in (
      ap read_datagram front.1 ∙ reads,
      ap options_of front.1 ∙ made_options type options content small,
      ap data_of front.1 ∙ made_data type options content small,
    )

accepted : (d : List ℕ) (type : ℕ) → read_datagram d ≡ Ok type → (datagram_fault d ≡ 0) × (type_of d ≡ type)
unfolding read_datagram
accepted d type e = accepted_as (type_of d) _ type e

-- What is accepted, written again, gives the same bytes: any output that has room for them is written as them, over its front.
pub datagram_writes_again : (d : List ℕ) (type : ℕ) (out : List ℕ) (r : Written) (out' : List ℕ) → Bytes d → read_datagram d ≡ Ok type → length d ≤ length out
    → WritesDatagram type (options_of d) (data_of d) out r out' → (r ≡ Ok (length d)) × (out' ≡ over out d)
datagram_writes_again d type out r out' bytes e room w =
    let ok = accepted d type e in
    let bs = datagram_bytes type (options_of d) (data_of d) in
    let same : bs ≡ d = ap (λ (t : ℕ). datagram_bytes t (options_of d) (data_of d)) (sym ok.1) ∙ read_bytes d ok.0 bytes in
    let long = whole_length d ok.0 in
    let small = le-ltb 4294967295 (length (options_of d)) (options_small d ok.0 bytes) in
    let none = first_none (write_rules (options_of d) (data_of d) out) (small, (le-ltb (length out) (length (options_of d) + length (data_of d) + 18) (omega (arith, long)), tt)) in
    subst (λ (l : List ℕ). (r ≡ Ok (length l)) × (out' ≡ over out l)) same (wrote_all (first (write_rules (options_of d) (data_of d) out)) bs out r out' w none)
